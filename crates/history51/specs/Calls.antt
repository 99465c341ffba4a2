-- Lists of calls as the contracts have them, and the promise of a whole life.
use Rattle.std.specs.Prelude.{◌≡◌, ℕ, List, [], ◌∷◌, length}
use Rattle.outcome.specs.Outcome.{kept}
use Rattle.records.specs.declared.traces.TraceRecord.{TraceRecord}
use Rattle.records.specs.declared.port_writes.PortRecord.{PortRecord}
use Rattle.logs.specs.Log.{Entries}
use Rattle.boards.specs.Board.{Pins}
use Rattle.step51.specs.World.{World}
use Rattle.step51.specs.Reset.{new_world, reset_of}
use Rattle.step51.specs.Step.{step_of}
use Rattle.step51.specs.Run.{session, run_of}
use Rattle.history.specs.Machine.{Machine, Call, Reset, StepOnce, Run, made}
use Rattle.history51.specs.Life.{living, Promised}
use Rattle.history51.specs.Agrees.{asked}

-- a reset, a step, or a run of so many steps with its two logs
pub data PanelCall : Type 0 where
  resets : PanelCall
  steps : PanelCall
  runs : ℕ → Entries TraceRecord → Entries PortRecord → PanelCall

-- the world after a call, and after a list of calls, by the definitions that the contracts cite
abbrev pub after_call : {S : Type 0} → (Pins S → Pins S) → PanelCall → World S → World S
after_call next resets w = reset_of w
after_call next steps w = (kept w (step_of next w)).1
after_call next (runs n traces ports) w = (run_of next n (session w traces ports)).1.at

abbrev pub after_calls : {S : Type 0} → (Pins S → Pins S) → List PanelCall → World S → World S
after_calls next [] w = w
after_calls next (c ∷ cs) w = after_calls next cs (after_call next c w)

-- the same call in the law, which counts the free places of the logs
abbrev pub law_call : PanelCall → Call
law_call resets = Reset
law_call steps = StepOnce
law_call (runs n traces ports) = Run (asked n) (length traces.free) (length ports.free)

abbrev pub law_calls : List PanelCall → List Call
law_calls [] = []
law_calls (c ∷ cs) = law_call c ∷ law_calls cs

-- the state after a list of the law's calls
abbrev pub law_after : {W : Type 0} → Machine W → List Call → W → W
law_after mc [] w = w
law_after mc (c ∷ cs) w = law_after mc cs (made mc c w).state

-- the history of these calls keeps the promise, and the world after them is the one after that history
pub record Lived {S : Type 0} (next : Pins S → Pins S) (start : World S) (calls : List PanelCall) : Type 0 where
  pub promise : Promised next start (law_calls calls)
  pub same_world : after_calls next calls (new_world start) ≡ law_after (living next) (law_calls calls) (new_world start)

-- From a new core, on any bus and any board, whatever they hold, after every list of resets, steps and runs with any logs.
abbrev pub Lives : {S : Type 0} → (Pins S → Pins S) → Type 0
Lives {S} next = (start : World S) (calls : List PanelCall) → Lived next start calls
