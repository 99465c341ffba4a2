-- What a step does before its machine cycles, and what its trace record says of it.
use Rattle.std.specs.Prelude.{ℕ, Bool, true, cond, None, Option, ◌==◌}
use Rattle.records.specs.declared.traces.Cycles.{Cycles}
use Rattle.records.specs.declared.traces.Cycles.TheVariants.{One, Two, Four}
use Rattle.records.specs.declared.traces.StepKind.{StepKind}
use Rattle.records.specs.declared.traces.StepKind.TheVariants.{Instruction, VectorCall}
use Rattle.records.specs.declared.traces.TraceRecord.{TraceRecord}
use Rattle.execute51.specs.declared.told.PortWrite.{PortWrite}
use Rattle.cycles.specs.State.{State}
use Rattle.step51.specs.declared.action.Action.{Action}
use Rattle.step51.specs.declared.action.Action.TheVariants.{Called, Executed}

-- a vector call takes 2 cycles and polls; an instruction is as it tells
abbrev pub count_of : Action → ℕ
count_of (Called q) = 2
count_of (Executed t) = t.cycles

abbrev pub polls_of : Action → Bool
polls_of (Called q) = true
polls_of (Executed t) = t.polls

-- only an instruction writes a port
abbrev pub port_of : Action → Option PortWrite
port_of (Called q) = None
port_of (Executed t) = t.port

abbrev pub kind_of : Action → StepKind
kind_of (Called q) = VectorCall q.source
kind_of (Executed t) = Instruction t.opcode

-- a step takes 1, 2 or 4 cycles
abbrev pub cycles_named : ℕ → Cycles
cycles_named n = cond (n == 1) One (cond (n == 2) Two Four)

-- the trace record: PC before the step, marks and accumulator after it
abbrev pub trace_of : ℕ → Action → State → TraceRecord
trace_of pc a s = record {
  kind = kind_of a;
  pc = pc;
  cycles = cycles_named (count_of a);
  marks = s.interrupts.marks;
  accumulator = s.chip.registers.a;
}
