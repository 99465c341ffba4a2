-- The vector call, and what RETI does to the marks.
use Rattle.std.specs.Prelude.{ℕ, Bool, true, false, cond, None, Ok, Result}
use Rattle.outcome.specs.Outcome.{then}
use Rattle.records.specs.declared.traces.Source.{Source}
use Rattle.records.specs.declared.traces.Source.TheVariants.{External0, Timer0, External1, Timer1, Serial}
use Rattle.records.specs.declared.traces.Marks.{Marks}
use Rattle.arithmetic.specs.Bits.{with_bit_of}
use Rattle.instructions.specs.Tables.{vector_of}
use Rattle.core51.specs.declared.fault.Fault.{Fault}
use Rattle.core51.specs.declared.state.Registers.{Registers}
use Rattle.core51.specs.declared.state.Chip.{Chip}
use Rattle.core51.specs.State.{with_pc, with_tcon, with_registers, with_timers}
use Rattle.core51.specs.Stack.{push_address_of}
use Rattle.cycles.specs.declared.poll.Level.{Level}
use Rattle.cycles.specs.declared.poll.Level.TheVariants.{Low, High}
use Rattle.cycles.specs.declared.poll.Request.{Request}
use Rattle.cycles.specs.declared.machine.Interrupts.{Interrupts}
use Rattle.cycles.specs.Flags.{external_bits0, external_bits1, cleared_of}
use Rattle.cycles.specs.State.{State, with_marks, with_accepted, with_interrupts}

abbrev pub marks_of : Bool → Bool → Marks
marks_of l h = record { low = l; high = h }

-- the mark of a level set
abbrev pub marked_of : Level → Marks → Marks
marked_of Low m = marks_of true m.high
marked_of High m = marks_of m.low true

-- RETI clears the high mark if it is set, else the low one
abbrev pub returned_of : Marks → Marks
returned_of m = cond m.high (marks_of m.low false) (marks_of false m.high)

-- TCON when a source is called: TF0, bit 5, or TF1, bit 7, is cleared, and IE0 or IE1 if its activation bit is 1
abbrev pub acknowledged_of : Source → ℕ → ℕ
acknowledged_of External0 tcon = cleared_of external_bits0 tcon
acknowledged_of Timer0 tcon = with_bit_of tcon 5 false
acknowledged_of External1 tcon = cleared_of external_bits1 tcon
acknowledged_of Timer1 tcon = with_bit_of tcon 7 false
acknowledged_of Serial tcon = tcon

-- PC is pushed and goes to an address
abbrev pub enter_of : ℕ → Registers → Result (Unit {0} × Registers) Fault
enter_of address r = then (push_address_of r r.pc) (λ x. Ok (tt, with_pc x.1 address))

-- the flag of the request, where the call clears it
abbrev pub flag_cleared : Source → Chip → Chip
flag_cleared s c = with_timers c (with_tcon c.timers (acknowledged_of s c.timers.tcon))

-- the request is used up, and the mark of its level set
abbrev pub served : Level → Interrupts → Interrupts
served l i = with_accepted (with_marks i (marked_of l i.marks)) None

-- the call of a request
abbrev pub vector_steps : Request → State → Result (Unit {0} × State) Fault
vector_steps q s =
    then (enter_of (vector_of q.source) s.chip.registers) (λ x.
    Ok (tt, record { chip = flag_cleared q.source (with_registers s.chip x.1); interrupts = served q.level s.interrupts; cycles = s.cycles }))

unfoldable pub vector_call_of : Request → State → Result (Unit {0} × State) Fault
vector_call_of q s = vector_steps q s

-- RETI ends the service of the highest level in progress
abbrev pub ended_of : State → State
ended_of s = with_interrupts s (with_marks s.interrupts (returned_of s.interrupts.marks))
