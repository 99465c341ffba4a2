-- A machine that is reset, stepped and run, and the history that a list of such calls makes.
use Rattle.std.specs.Prelude.{ℕ, zero, suc, cond, List, [], ◌∷◌, ◌++◌}
use Rattle.history.specs.Events.{Step, Event, reset, step}

-- A step is refused, and then changes nothing, or accepted, with what can be seen of it and the state after it.
pub data Outcome (W : Type 0) : Type 0 where
  refused : Outcome W
  accepted : Step → W → Outcome W

-- A machine with states W.
pub record Machine (W : Type 0) : Type 0 where
  pub restarted : W → W
  pub stepped : W → Outcome W

-- A call: a reset, a step, or a run of so many steps with so much room in its trace log and in its port log.
pub data Call : Type 0 where
  Reset : Call
  StepOnce : Call
  Run : ℕ → ℕ → ℕ → Call

-- What a call adds to the history, and the state after it.
pub record Made (W : Type 0) : Type 0 where
  pub events : List Event
  pub state : W

-- After a refusal nothing is done; after an accepted step comes what is done next.
abbrev pub follow : {W : Type 0} → W → Outcome W → (Step → W → Made W) → Made W
follow w refused next = record { events = []; state = w }
follow w (accepted x v) next = let r = next x v in record { events = step x ∷ r.events; state = r.state }

-- Nothing more is done.
abbrev pub done : {W : Type 0} → W → Made W
done w = record { events = []; state = w }

-- A run of n steps with room for t traces and p port writes. It stops before a step if a log is full, and at a refused step.
-- Every step takes a place of the trace log, a step that writes a port also one of the port log.
abbrev pub ran : {W : Type 0} → Machine W → ℕ → ℕ → ℕ → W → Made W
ran mc zero t p w = done w
ran mc (suc n) zero p w = done w
ran mc (suc n) (suc t) zero w = done w
ran mc (suc n) (suc t) (suc p) w = follow w (mc.stepped w) (λ x v. ran mc n t (cond x.port p (suc p)) v)

-- What each call makes.
abbrev pub made : {W : Type 0} → Machine W → Call → W → Made W
made mc Reset w = record { events = reset ∷ []; state = mc.restarted w }
made mc StepOnce w = follow w (mc.stepped w) (λ x v. done v)
made mc (Run n t p) w = ran mc n t p w

-- The history of a list of calls from the state w: its resets and accepted steps, also those of runs, in order.
abbrev pub history : {W : Type 0} → Machine W → W → List Call → List Event
history mc w [] = []
history mc w (x ∷ xs) = (made mc x w).events ++ history mc (made mc x w).state xs
