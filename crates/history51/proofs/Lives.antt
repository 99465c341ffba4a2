-- The promise after every list of calls.
use Rattle.std.proofs.Common.{◌≡◌, List, [], ◌∷◌, Ok, Err, Result, refl, ap, ◌∙◌}
use Rattle.outcome.specs.Outcome.{kept}
use Rattle.boards.specs.Board.{Pins}
use Rattle.core51.specs.declared.fault.Fault.{Fault}
use Rattle.step51.specs.World.{World}
use Rattle.step51.specs.Step.{Done, step_of}
use Rattle.step51.specs.Run.{session}
use Rattle.history.specs.Machine.{Outcome, refused, accepted, follow, done, made}
use Rattle.history51.specs.Life.{living}
use Rattle.history51.specs.Agrees.{Agree}
use Rattle.history51.specs.Calls.{PanelCall, resets, steps, runs, after_call, after_calls, law_call, law_calls, law_after, Lives}
use Rattle.history51.proofs.Promised.{promised}
use Rattle.history51.proofs.Agrees.{step_lives}
use Rattle.history51.proofs.Runs.{run_lives}

module _ {S : Type 0} (next : Pins S → Pins S) where
  same_step : (w : World S) (o : Outcome (World S)) (r : Result Done Fault) (u : World S) → Agree w o r u → u ≡ (follow w o (λ x v. done v)).state
  same_step w refused (Ok d) u h = absurd h
  same_step w refused (Err e) u h = h
  same_step w (accepted x v) (Ok d) u h = h.state
  same_step w (accepted x v) (Err e) u h = absurd h

  same_call : (c : PanelCall) (w : World S) → after_call next c w ≡ (made (living next) (law_call c) w).state
  unfolding living
  same_call resets w = refl
  same_call steps w = same_step w ((living next).stepped w) (kept w (step_of next w)).0 (kept w (step_of next w)).1 (step_lives next w)
  same_call (runs n traces ports) w = (run_lives next (session w traces ports) n).state

  same_world : (cs : List PanelCall) (w : World S) → after_calls next cs w ≡ law_after (living next) (law_calls cs) w
  same_world [] w = refl
  same_world (c ∷ cs) w = same_world cs (after_call next c w) ∙ ap (law_after (living next) (law_calls cs)) (same_call c w)

  pub lives : Lives next
  lives start calls = record { promise = promised next start (law_calls calls); same_world = same_world calls _ }
