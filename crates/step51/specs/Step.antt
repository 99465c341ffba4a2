-- One step.
use Rattle.std.specs.Prelude.{ℕ, Bool, true, false, cond, Some, None, Ok, Err, Option, Result, nat_lt}
use Rattle.outcome.specs.Outcome.{then}
use Rattle.records.specs.declared.traces.TraceRecord.{TraceRecord}
use Rattle.records.specs.Port.{port_number}
use Rattle.boards.specs.Board.{Pins, drive_of}
use Rattle.buses.specs.Memory.{Memory}
use Rattle.core51.specs.declared.fault.Fault.{Fault}
use Rattle.core51.specs.declared.fault.Fault.TheVariants.{TimeOver}
use Rattle.core51.specs.declared.state.Chip.{Chip}
use Rattle.execute51.specs.declared.told.PortWrite.{PortWrite}
use Rattle.execute51.specs.Execute.{execute_of}
use Rattle.cycles.specs.declared.poll.Request.{Request}
use Rattle.cycles.specs.State.{State}
use Rattle.cycles.specs.Vector.{vector_call_of, ended_of}
use Rattle.cycles.specs.Cycle.{cycles_of}
use Rattle.step51.specs.declared.action.Action.{Action}
use Rattle.step51.specs.declared.action.Action.TheVariants.{Called, Executed}
use Rattle.step51.specs.World.{World, world}
use Rattle.step51.specs.Action.{count_of, polls_of, port_of, trace_of}

abbrev pub with_chip : State → Chip → State
with_chip s c = record s { chip = c }

-- RETI also ends a service
abbrev pub ended_if : Bool → State → State
ended_if true s = ended_of s
ended_if false s = s

-- the vector call of the accepted request, or the instruction at PC if there is none
abbrev pub act_on : {S : Type 0} → Option Request → Pins S → State → Memory → Result (Action × (State × Memory)) Fault
act_on (Some q) levels s m = then (vector_call_of q s) (λ x. Ok (Called q, (x.1, m)))
act_on None levels s m = then (execute_of levels s.chip m) (λ x. Ok (Executed x.0, (ended_if x.0.is_reti (with_chip s x.1.0), x.1.1)))

abbrev pub act_steps : {S : Type 0} → Pins S → State → Memory → Result (Action × (State × Memory)) Fault
act_steps levels s m = act_on s.interrupts.accepted levels s m

-- the same under a name that proofs do not look into unless they say so
unfoldable pub act_of : {S : Type 0} → Pins S → State → Memory → Result (Action × (State × Memory)) Fault
act_of levels s m = act_steps levels s m

-- a port write is driven to the board
abbrev pub driven_to : {S : Type 0} → Option PortWrite → Pins S → Pins S
driven_to None b = b
driven_to (Some w) b = drive_of b (port_number w.port) w.byte

-- no step begins after more than 3,999,999,996 cycles
abbrev pub is_late : ℕ → Bool
is_late cycles = nat_lt 3999999996 cycles

-- what a step does before its machine cycles: it uses the bus and changes the machine, and then drives its port
abbrev pub begin_steps : {S : Type 0} → World S → Result (Action × World S) Fault
begin_steps w =
    cond (is_late w.state.cycles) (Err TimeOver)
    (then (act_of w.pins w.state w.memory) (λ x. Ok (x.0, world x.1.0 x.1.1 (driven_to (port_of x.0) w.pins))))

-- the same under a name that proofs do not look into unless they say so
unfoldable pub begin_of : {S : Type 0} → World S → Result (Action × World S) Fault
begin_of w = begin_steps w

-- what an accepted step answers: its trace record, and its port write if it makes one
abbrev pub Done : Type 0
Done = TraceRecord × Option PortWrite

-- a step that began at an address, after its machine cycles
abbrev pub completed : {S : Type 0} → ℕ → Action → Memory → State × Pins S → Done × World S
completed pc a m x = ((trace_of pc a x.0, port_of a), world x.0 m x.1)

-- a step: what it does first, and then its machine cycles; next is what a tick brings to the board
abbrev pub step_steps : {S : Type 0} → (Pins S → Pins S) → World S → Result (Done × World S) Fault
step_steps next w =
    then (begin_of w) (λ x.
    Ok (completed w.state.chip.registers.pc x.0 x.1.memory (cycles_of next (count_of x.0) (polls_of x.0) (x.1.state, x.1.pins))))

-- the same under a name that proofs do not look into unless they say so
unfoldable pub step_of : {S : Type 0} → (Pins S → Pins S) → World S → Result (Done × World S) Fault
step_of next w = step_steps next w
