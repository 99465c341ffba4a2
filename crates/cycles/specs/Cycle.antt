-- One machine cycle.
use Rattle.std.specs.Prelude.{ℕ, zero, suc, ◌+◌, ◌-◌, ◌%◌, ◌^◌, Bool, true, false, not, ◌&&◌, ◌==◌, bit_and, slice_index}
use Rattle.arithmetic.specs.Bits.{bit_of}
use Rattle.boards.specs.Board.{Pins, level_of}
use Rattle.core51.specs.declared.state.Timers.{Timers}
use Rattle.core51.specs.declared.state.Chip.{Chip}
use Rattle.core51.specs.State.{with_timers}
use Rattle.cycles.specs.Timers.{timers_of}
use Rattle.cycles.specs.Flags.{flags_of}
use Rattle.cycles.specs.Sample.{sample_of}
use Rattle.cycles.specs.Poll.{poll_of}
use Rattle.cycles.specs.State.{State, with_pins, with_accepted, with_sample, with_interrupts}

-- the timers, then the external flags; the pins are kept for the next cycle
unfoldable pub tick_of : ℕ → Timers → Timers
tick_of pins t = with_pins (flags_of pins (timers_of pins t)) pins

-- no timer runs, nothing is requested in TCON and SCON, and no external pin is low: a cycle then changes nothing but the pins
abbrev pub is_quiet : ℕ → ℕ → Timers → Bool
is_quiet scon pins t =
    not (bit_of t.tcon 1) && not (bit_of t.tcon 3) &&
    not (bit_of t.tcon 4) && not (bit_of t.tcon 5) && not (bit_of t.tcon 6) && not (bit_of t.tcon 7) &&
    not (t.tmod % 4 == 3) && bit_of pins 2 && bit_of pins 3 && not (bit_of scon 0) && not (bit_of scon 1)

-- the chip after that
abbrev pub ticked_chip : ℕ → Chip → Chip
ticked_chip pins c = with_timers c (tick_of pins c.timers)

-- then the five requests are sampled, and the cycle is counted
abbrev pub sampled : Chip → State → State
sampled c s = record {
  chip = c;
  interrupts = with_sample s.interrupts (sample_of c.timers.tcon c.serial.scon);
  cycles = (s.cycles + 1) % 2 ^ 32;
}

unfoldable pub ticked_of : ℕ → State → State
ticked_of pins s = sampled (ticked_chip pins s.chip) s

-- the poll looks at the sample of the cycle before
unfoldable pub polled_of : State → State
polled_of s =
    with_interrupts s (with_accepted s.interrupts (poll_of s.interrupts.sample s.chip.control.ie s.chip.control.ip s.interrupts.marks))

abbrev pub polled_if : Bool → State → State
polled_if true s = polled_of s
polled_if false s = s

-- a pin of port 3 is 1 where its latch and the level are
abbrev pub pins_of : {S : Type 0} → State → Pins S → ℕ
pins_of s board = bit_and (slice_index s.chip.registers.latches 3) (level_of board 3)

-- a machine cycle besides its poll: the board's tick, then all else at the pins of port 3 after it
abbrev pub run_of : {S : Type 0} → (Pins S → Pins S) → State × Pins S → State × Pins S
run_of next w = (ticked_of (pins_of w.0 (next w.1)) w.0, next w.1)

-- a machine cycle, with the poll if it is the last of a step that polls
abbrev pub cycle_steps : {S : Type 0} → (Pins S → Pins S) → Bool → State × Pins S → State × Pins S
cycle_steps next polls w = run_of next (polled_if polls w.0, w.1)

unfoldable pub cycle_of : {S : Type 0} → (Pins S → Pins S) → Bool → State × Pins S → State × Pins S
cycle_of next polls w = cycle_steps next polls w

-- cycles without a poll
abbrev pub silent : {S : Type 0} → (Pins S → Pins S) → ℕ → State × Pins S → State × Pins S
silent next zero w = w
silent next (suc n) w = cycle_of next false (silent next n w)

-- the cycles of a step, at least one, of which the last may poll
unfoldable pub cycles_of : {S : Type 0} → (Pins S → Pins S) → ℕ → Bool → State × Pins S → State × Pins S
cycles_of next n polls w = cycle_of next polls (silent next (n - 1) w)
