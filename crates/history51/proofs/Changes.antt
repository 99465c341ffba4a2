-- What a step does before its machine cycles.
use Rattle.std.proofs.Common.{◌≡◌, ℕ, zero, suc, ◌≤◌, Bool, true, false, cond, Some, None, Ok, Err, Option, Result, sym, refl, ap, ◌∙◌, arith}
use Rattle.std.proofs.lemmas.Bool.{cond_both}
use Rattle.records.specs.declared.traces.Marks.{Marks}
use Rattle.boards.specs.Board.{Pins}
use Rattle.buses.specs.Memory.{Memory}
use Rattle.instructions.specs.Tables.{vector_of}
use Rattle.core51.specs.declared.fault.Fault.{Fault}
use Rattle.core51.specs.declared.fault.Fault.TheVariants.{TimeOver}
use Rattle.core51.specs.declared.state.Chip.{Chip}
use Rattle.core51.specs.declared.state.Control.{Control}
use Rattle.execute51.specs.declared.external.Access.{Access}
use Rattle.execute51.specs.declared.external.Access.TheVariants.{Read, Write}
use Rattle.execute51.specs.declared.told.Told.{Told}
use Rattle.execute51.specs.Execute.{execute_of}
use Rattle.execute51.specs.Laws.{Accessed, Shown}
use Rattle.execute51.proofs.Shows.{All, all_then, any, ShownAt, execute_told}
use Rattle.cycles.specs.declared.poll.Level.{Level}
use Rattle.cycles.specs.declared.poll.Level.TheVariants.{Low, High}
use Rattle.cycles.specs.declared.poll.Request.{Request}
use Rattle.cycles.specs.State.{State, with_marks}
use Rattle.cycles.specs.Vector.{marks_of, marked_of, returned_of, enter_of, vector_call_of}
use Rattle.step51.specs.declared.action.Action.{Action}
use Rattle.step51.specs.declared.action.Action.TheVariants.{Called}
use Rattle.step51.specs.World.{World, world}
use Rattle.step51.specs.Action.{count_of, port_of}
use Rattle.step51.specs.Step.{with_chip, ended_if, act_on, act_of, driven_to, is_late, begin_of}
use Rattle.history.specs.Events.{Kind, plain, control, reti, call, polls}
use Rattle.history.specs.Laws.{called, most_cycles, Marked, Accessed as LawAccessed}
use Rattle.history.specs.Cycles.{ChangeLaw, Changes}
use Rattle.history.specs.Marks.{contra}
use Rattle.history51.specs.View.{enabled_of, level_by, level_number, pending_of, serving_of, view_of}
use Rattle.history51.proofs.Labels.{Labelled, call_labelled, instruction_labelled}
use Rattle.history51.specs.Life.{kind_of, as_access, access_of, decided}

-- the access of the law does what the access of the instruction does
accessed : (a : Option Access) (old new : ℕ → Option ℕ) → Accessed a old new → LawAccessed (as_access a) old new
accessed None old new h = h
accessed (Some (Read x b)) old new h = h
accessed (Some (Write x b)) old new h = h

-- a vector call sets the mark of its level
call_marks : (l : Level) (m : Marks) → Marked (call (level_number l)) (serving_of m) (serving_of (marked_of l m))
call_marks Low m = (refl, others)
  where
    others : (i : ℕ) → (i ≡ 0 → ⊥) → serving_of (marked_of Low m) i ≡ serving_of m i
    others zero n = absurd (n refl)
    others (suc i) n = refl
call_marks High m = (refl, others)
  where
    others : (i : ℕ) → (i ≡ 1 → ⊥) → serving_of (marked_of High m) i ≡ serving_of m i
    others zero n = refl
    others (suc zero) n = absurd (n refl)
    others (suc (suc i)) n = refl

-- RETI sets none
reti_marks : (low high : Bool) (i : ℕ) → serving_of (returned_of (marks_of low high)) i ≡ true → serving_of (marks_of low high) i ≡ true
reti_marks low true zero h = h
reti_marks low true (suc zero) h = refl
reti_marks low true (suc (suc i)) h = h
reti_marks low false zero h = contra h refl
reti_marks low false (suc i) h = h

module _ {S : Type 0} (w : World S) where
  -- a begun step
  abbrev pub Begun : Action × World S → Type 0
  Begun x = Labelled x.0 × ChangeLaw 4 2 (kind_of x.0) (count_of x.0) (access_of x.0) (view_of w) (view_of x.1)

  -- the same whatever is driven to the board
  abbrev Acted : Action × (State × Memory) → Type 0
  Acted x = (b : Pins S) → Begun (x.0, world x.1.0 x.1.1 b)

  module _ (t : Told) (c : Chip) (n : Memory) (b : Pins S) (none : w.state.interrupts.accepted ≡ None)
      (h : Shown w.state.chip w.memory t c n) where
    -- an instruction leaves the marks m
    abbrev after : Marks → World S
    after m = world (record { chip = c; interrupts = with_marks w.state.interrupts m; cycles = w.state.cycles }) n b

    instruction_change : (k : Kind) (m : Marks) → called k ≡ None → t.cycles ≤ most_cycles 4 2 k → (polls k ≡ true → c.control ≡ w.state.chip.control)
        → Marked k (serving_of w.state.interrupts.marks) (serving_of m) → ChangeLaw 4 2 k t.cycles (as_access t.access) (view_of w) (view_of (after m))
    instruction_change k m q l s marks = record {
      calls = q ∙ sym (ap pending_of none);
      uses_up = ap pending_of none;
      some_cycle = h.some_cycle;
      lasts = l;
      same_sample = refl;
      same_enabled = λ p. ap (λ (x : Control). enabled_of x.ie) (s p);
      same_level = λ p. ap (λ (x : Control). level_by x.ip) (s p);
      marks = marks;
      accesses = accessed t.access w.memory.store n.store h.accesses;
    }

    executed_change : (p r : Bool) → t.polls ≡ p → t.is_reti ≡ r
        → ChangeLaw 4 2 (cond p plain (cond r reti control)) t.cycles (as_access t.access) (view_of w) (view_of (world (ended_if r (with_chip w.state c)) n b))
    executed_change true true e f = contra e (h.reti_silent f)
    executed_change true false e f = instruction_change plain w.state.interrupts.marks refl h.most_cycles (λ q. h.same_control e) (λ i. refl)
    executed_change false true e f =
        let m = w.state.interrupts.marks in
        instruction_change reti (returned_of m) refl (h.silent_cycles e) (λ q. contra q refl) (reti_marks m.low m.high)
    executed_change false false e f =
        instruction_change control w.state.interrupts.marks refl (h.silent_cycles e) (λ q. contra q refl) (λ i. refl)

  call_changes : (q : Request) → w.state.interrupts.accepted ≡ Some q → All (λ (x : Unit {0} × State). Acted (Called q, (x.1, w.memory))) (vector_call_of q w.state)
  unfolding vector_call_of
  call_changes q e =
      let entered = enter_of (vector_of q.source) w.state.chip.registers in
      all_then (λ x. Unit {0}) (λ (x : Unit {0} × State). Acted (Called q, (x.1, w.memory))) entered _ (any entered)
      (λ x u b. (
        call_labelled q,
        record {
          calls = sym (ap pending_of e);
          uses_up = refl;
          some_cycle = omega arith;
          lasts = omega arith;
          same_sample = refl;
          same_enabled = λ p. refl;
          same_level = λ p. refl;
          marks = call_marks q.level w.state.interrupts.marks;
          accesses = λ a. refl;
        },
      ))

  act_changes : (o : Option Request) → w.state.interrupts.accepted ≡ o → All Acted (act_on o w.pins w.state w.memory)
  act_changes (Some q) e =
      all_then (λ (x : Unit {0} × State). Acted (Called q, (x.1, w.memory))) Acted (vector_call_of q w.state) _ (call_changes q e) (λ x h. h)
  act_changes None e =
      all_then (ShownAt w.state.chip w.memory) Acted (execute_of w.pins w.state.chip w.memory) _
      (execute_told w.pins w.state.chip w.memory)
      (λ x h b. (
        instruction_labelled w.state.chip w.memory x.0 x.1.0 x.1.1 h.0 h.1,
        executed_change x.0 x.1.0 x.1.1 b e h.0 x.0.polls x.0.is_reti refl refl,
      ))

  pub begin_changes : All Begun (begin_of w)
  unfolding begin_of act_of
  begin_changes =
      cond_both (is_late w.state.cycles) (Err TimeOver) _ (All Begun) (λ e. tt)
      (λ e. all_then Acted Begun (act_of w.pins w.state w.memory) _ (act_changes w.state.interrupts.accepted refl)
      (λ x h. h (driven_to (port_of x.0) w.pins)))

  decided_changes : (r : Result (Action × World S) Fault) → All Begun r → Changes 4 2 view_of w (decided r)
  decided_changes (Ok x) h = h.1
  decided_changes (Err e) h = tt

  pub change_law : Changes 4 2 view_of w (decided (begin_of w))
  change_law = decided_changes (begin_of w) begin_changes
