-- The step of the law is the step of the contracts.
use Rattle.std.proofs.Common.{◌≡◌, ℕ, zero, suc, ◌-◌, Bool, true, false, Ok, Err, Result, sym, refl, ap, ◌∙◌, arith}
use Rattle.outcome.specs.Outcome.{kept, then}
use Rattle.boards.specs.Board.{Pins}
use Rattle.buses.specs.Memory.{Memory}
use Rattle.core51.specs.declared.fault.Fault.{Fault}
use Rattle.execute51.proofs.Shows.{All}
use Rattle.cycles.specs.State.{State}
use Rattle.cycles.specs.Cycle.{cycle_of, silent, cycles_of}
use Rattle.step51.specs.declared.action.Action.{Action}
use Rattle.step51.specs.World.{World, world}
use Rattle.step51.specs.Action.{count_of, polls_of}
use Rattle.step51.specs.Step.{Done, begin_of, completed, step_of}
use Rattle.history.specs.Events.{polls}
use Rattle.history.specs.Cycles.{silent as law_silent, last_cycle, outcome}
use Rattle.history.proofs.Cycles.{closings_length}
use Rattle.history51.specs.Life.{kind_of, decided, ticked, parts, living}
use Rattle.history51.specs.Agrees.{Agree, StepLives}
use Rattle.history51.proofs.Labels.{Labelled}
use Rattle.history51.proofs.Changes.{Begun, begin_changes}

module _ {S : Type 0} (next : Pins S → Pins S) where
  abbrev in_world : Memory → State × Pins S → World S
  in_world m x = world x.0 m x.1

  -- a cycle before n others is as one after them
  silent_first : (n : ℕ) (x : State × Pins S) → silent next n (cycle_of next false x) ≡ cycle_of next false (silent next n x)
  silent_first zero x = refl
  silent_first (suc n) x = ap (cycle_of next false) (silent_first n x)

  silent_agree : (n : ℕ) (w : World S) → law_silent (parts next) n w ≡ in_world w.memory (silent next n (w.state, w.pins))
  unfolding cycle_of
  silent_agree zero w = refl
  silent_agree (suc n) w = silent_agree n (ticked next w) ∙ ap (in_world w.memory) (silent_first n (w.state, w.pins))

  last_agrees : (p : Bool) (m : Memory) (x : State × Pins S) → last_cycle (parts next) p (in_world m x) ≡ in_world m (cycle_of next p x)
  unfolding cycle_of
  last_agrees true m x = refl
  last_agrees false m x = refl

  cycles_agree : (n : ℕ) (p : Bool) (w : World S) →
      in_world w.memory (cycles_of next n p (w.state, w.pins)) ≡ last_cycle (parts next) p (law_silent (parts next) (n - 1) w)
  unfolding cycles_of
  cycles_agree n p w =
      sym (ap (last_cycle (parts next) p) (silent_agree (n - 1) w) ∙ last_agrees p w.memory (silent next (n - 1) (w.state, w.pins)))

  begun_agrees : (w : World S) (r : Result (Action × World S) Fault) → All (Begun w) r →
      let e : Result (Done × World S) Fault = then r (λ x. Ok (completed w.state.chip.registers.pc x.0 x.1.memory (cycles_of next (count_of x.0) (polls_of x.0) (x.1.state, x.1.pins)))) in
      Agree w (outcome (parts next) (decided r)) (kept w e).0 (kept w e).1
  begun_agrees w (Ok x) h =
      let n = count_of x.0 in
      let l : Labelled x.0 = h.0 in
      record {
        state = cycles_agree n (polls_of x.0) x.1
            ∙ ap (λ (p : Bool). last_cycle (parts next) p (law_silent (parts next) (n - 1) x.1)) (sym l.same_polls);
        cycles =
            let c = closings_length (parts next) (n - 1) (polls (kind_of x.0)) x.1 in
            let s = l.some in
            let e = l.named in
            omega arith;
        port = refl;
        kind = l.told;
      }
  begun_agrees w (Err e) h = refl

  pub step_lives : (w : World S) → StepLives next w (kept w (step_of next w)).0 (kept w (step_of next w)).1
  unfolding living step_of
  step_lives w = begun_agrees w (begin_of w) (begin_changes w)
