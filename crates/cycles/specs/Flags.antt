-- The external interrupt flags in one machine cycle.
use Rattle.std.specs.Prelude.{ℕ, Bool, false, cond, not, ◌||◌}
use Rattle.arithmetic.specs.Bits.{bit_of, with_bit_of}
use Rattle.core51.specs.declared.state.Timers.{Timers}
use Rattle.core51.specs.State.{with_tcon}
use Rattle.cycles.specs.declared.flags.ExternalBits.{ExternalBits}
use Rattle.cycles.specs.Timers.{falls_of}

-- IT0 is bit 0 of TCON and IE0 bit 1, at the pin P3.2
abbrev pub external_bits0 : ExternalBits
external_bits0 = record { activation = 0; flag = 1; pin = 2 }

-- IT1 is bit 2 of TCON and IE1 bit 3, at the pin P3.3
abbrev pub external_bits1 : ExternalBits
external_bits1 = record { activation = 2; flag = 3; pin = 3 }

-- with the activation bit at 0 the flag tells that the pin is low; with it at 1 a fall of the pin sets it, and else it stays
abbrev pub external_of : (activation flag low fall : Bool) → Bool
external_of activation flag low fall = cond activation (flag || fall) low

-- the flag by the pins of the cycle before and of this one, and TCON
abbrev pub renewed_of : ExternalBits → ℕ → ℕ → ℕ → Bool
renewed_of b old new tcon = external_of (bit_of tcon b.activation) (bit_of tcon b.flag) (not (bit_of new b.pin)) (falls_of old new b.pin)

-- TCON with that flag
abbrev pub external_tcon : ExternalBits → ℕ → ℕ → ℕ → ℕ
external_tcon b old new tcon = with_bit_of tcon b.flag (renewed_of b old new tcon)

abbrev pub raised_of : ExternalBits → ℕ → Timers → Timers
raised_of b pins t = with_tcon t (external_tcon b t.pins pins t.tcon)

-- TCON with IE0
abbrev pub external0_of : ℕ → ℕ → ℕ → ℕ
external0_of = external_tcon external_bits0

-- TCON with IE1
abbrev pub external1_of : ℕ → ℕ → ℕ → ℕ
external1_of = external_tcon external_bits1

-- both flags, at the pins of the cycle before and of this one
abbrev pub flags_of : ℕ → Timers → Timers
flags_of pins t = with_tcon t (external1_of t.pins pins (external0_of t.pins pins t.tcon))

-- TCON with the flag cleared if the activation bit is 1
abbrev pub cleared_of : ExternalBits → ℕ → ℕ
cleared_of b tcon = cond (bit_of tcon b.activation) (with_bit_of tcon b.flag false) tcon
