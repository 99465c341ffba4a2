-- The labels of a step agree with its trace record and with its machine cycles.
use Rattle.std.proofs.Common.{◌≡◌, ℕ, ◌<◌, ◌≤◌, Bool, true, false, cond, eqb, ◌≢◌, sym, refl, ap, arith}
use Rattle.std.proofs.lemmas.Bool.{eqb-true, eq-eqb}
use Rattle.std.proofs.lemmas.Bool.Decides.{nat_tests}
use Rattle.records.specs.declared.traces.StepKind.TheVariants.{Instruction}
use Rattle.records.specs.Trace.{cycles_number}
use Rattle.buses.specs.Memory.{Memory}
use Rattle.core51.specs.declared.state.Chip.{Chip}
use Rattle.execute51.specs.declared.told.Told.{Told}
use Rattle.execute51.specs.Laws.{Shown, OpcodeShown}
use Rattle.cycles.specs.declared.poll.Request.{Request}
use Rattle.step51.specs.declared.action.Action.{Action}
use Rattle.step51.specs.declared.action.Action.TheVariants.{Called, Executed}
use Rattle.step51.specs.Action.{count_of, polls_of, cycles_named, kind_of as recorded_of}
use Rattle.history.specs.Events.{plain, control, reti, polls}
use Rattle.history.specs.Marks.{contra}
use Rattle.history51.specs.Life.{kind_of}
use Rattle.history51.specs.Agrees.{Tells}

pub record Labelled (a : Action) : Type 0 where
  pub some : 0 < count_of a
  pub named : cycles_number (cycles_named (count_of a)) ≡ count_of a
  pub same_polls : polls (kind_of a) ≡ polls_of a
  pub told : Tells (kind_of a) (recorded_of a)

pub call_labelled : (q : Request) → Labelled (Called q)
call_labelled q = record { some = omega arith; named = refl; same_polls = refl; told = (q.source, refl) }

named_cycles : (n : ℕ) → 0 < n → n ≤ 4 → n ≢ 3 → cycles_number (cycles_named n) ≡ n
named_cycles n h k e = grind (arith, nat_tests)

kind_polls : (p r : Bool) → polls (cond p plain (cond r reti control)) ≡ p
kind_polls true r = refl
kind_polls false true = refl
kind_polls false false = refl

kind_tells : (p r : Bool) (op : ℕ) → (r ≡ true → p ≡ false) → r ≡ eqb op 0x32 → Tells (cond p plain (cond r reti control)) (Instruction op)
kind_tells true true op h e = contra refl (h refl)
kind_tells false true op h e = ap Instruction (eqb-true op 0x32 (sym e))
kind_tells true false op h e = (op, refl, λ f. contra (eq-eqb op 0x32 f) (sym e))
kind_tells false false op h e = (op, refl, λ f. contra (eq-eqb op 0x32 f) (sym e))

pub instruction_labelled : (c : Chip) (m : Memory) (t : Told) (d : Chip) (n : Memory) → Shown c m t d n → OpcodeShown t → Labelled (Executed t)
instruction_labelled c m t d n h k = record {
  some = h.some_cycle;
  named = named_cycles t.cycles h.some_cycle h.most_cycles k.never_three;
  same_polls = kind_polls t.polls t.is_reti;
  told = kind_tells t.polls t.is_reti t.opcode h.reti_silent k.reti_opcode;
}
