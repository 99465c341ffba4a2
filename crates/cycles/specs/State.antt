-- The state of the machine: the chip, its interrupts, and the machine cycles so far.
use Rattle.std.specs.Prelude.{ℕ, Option}
use Rattle.records.specs.declared.traces.Marks.{Marks}
use Rattle.core51.specs.declared.state.Timers.{Timers}
use Rattle.core51.specs.declared.state.Chip.{Chip}
use Rattle.cycles.specs.declared.sample.Sample.{Sample}
use Rattle.cycles.specs.declared.poll.Request.{Request}
use Rattle.cycles.specs.declared.machine.Interrupts.{Interrupts}
use Rattle.cycles.specs.declared.machine.Machine.{Machine}

pub record State : Type 0 where
  pub chip : Chip
  pub interrupts : Interrupts
  pub cycles : ℕ

abbrev pub state_of : Machine → State
state_of m = record { chip = m.core.chip; interrupts = m.interrupts; cycles = m.cycles }

abbrev pub with_pins : Timers → ℕ → Timers
with_pins t x = record t { pins = x }

abbrev pub with_marks : Interrupts → Marks → Interrupts
with_marks i x = record i { marks = x }

abbrev pub with_accepted : Interrupts → Option Request → Interrupts
with_accepted i x = record i { accepted = x }

abbrev pub with_sample : Interrupts → Sample → Interrupts
with_sample i x = record i { sample = x }

abbrev pub with_interrupts : State → Interrupts → State
with_interrupts s x = record s { interrupts = x }
