-- The two timers in one machine cycle.
use Rattle.std.specs.Prelude.{ℕ, ◌+◌, ◌*◌, ◌/◌, ◌%◌, Bool, true, false, cond, not, ◌&&◌, ◌||◌, ◌==◌, slice_set}
use Rattle.arithmetic.specs.Addresses.{word_of}
use Rattle.arithmetic.specs.Bits.{bit_of, with_bit_of}
use Rattle.core51.specs.declared.state.Timer.{Timer}
use Rattle.core51.specs.declared.state.Timers.{Timers}
use Rattle.core51.specs.State.{with_tcon, with_table}
use Rattle.core51.specs.Places.{timer_of}
use Rattle.cycles.specs.declared.timers.Mode.{Mode}
use Rattle.cycles.specs.declared.timers.Mode.TheVariants.{Thirteen, Sixteen, Reload, Split}
use Rattle.cycles.specs.declared.timers.TimerBits.{TimerBits}

-- the mode in the low two bits of a byte: 0 to 3
abbrev pub mode_of : ℕ → Mode
mode_of bits =
    cond (bits % 4 == 0) Thirteen
    (cond (bits % 4 == 1) Sixteen
    (cond (bits % 4 == 2) Reload
    Split))

-- one more, in eight bits
abbrev pub up : ℕ → ℕ
up n = (n + 1) % 256

abbrev pub with_bytes : ℕ → ℕ → Timer
with_bytes l h = record { low = l; high = h }

-- A count answers whether the timer overflowed, and the timer after it.

-- one byte alone
abbrev pub count_byte : ℕ → Bool × ℕ
count_byte n = ((up n == 0), up n)

-- mode 0 counts thirteen bits, TH above the low five of TL
abbrev pub thirteen : Timer → ℕ
thirteen t = (t.high * 32 + t.low % 32 + 1) % 8192

-- the top three bits of TL stay
abbrev pub count_thirteen : Timer → Bool × Timer
count_thirteen t = ((thirteen t == 0), with_bytes (t.low / 32 * 32 + thirteen t % 32) (thirteen t / 32))

-- mode 1 counts sixteen bits, TH above TL
abbrev pub sixteen : Timer → ℕ
sixteen t = (word_of t.high t.low + 1) % 65536

abbrev pub count_sixteen : Timer → Bool × Timer
count_sixteen t = ((sixteen t == 0), with_bytes (sixteen t % 256) (sixteen t / 256))

-- mode 2 counts TL, and reloads it from TH on overflow
abbrev pub count_reload : Timer → Bool × Timer
count_reload t = cond (up t.low == 0) (true, with_bytes t.high t.high) (false, with_bytes (up t.low) t.high)

-- mode 3 counts TL alone
abbrev pub count_low : Timer → Bool × Timer
count_low t = ((up t.low == 0), with_bytes (up t.low) t.high)

-- and TH alone
abbrev pub count_high : Timer → Bool × Timer
count_high t = ((up t.high == 0), with_bytes t.low (up t.high))

-- one count in a mode
abbrev pub count_of : Mode → Timer → Bool × Timer
count_of Thirteen t = count_thirteen t
count_of Sixteen t = count_sixteen t
count_of Reload t = count_reload t
count_of Split t = count_low t

-- one count of timer n of the table in a mode
abbrev pub count_entry : ℕ → Mode → Timers → Bool × Timers
count_entry n mode t = ((count_of mode (timer_of t (n % 2))).0, with_table t (slice_set t.table (n % 2) (count_of mode (timer_of t (n % 2))).1))

-- a pin that was high in the cycle before and is low
abbrev pub falls_of : ℕ → ℕ → ℕ → Bool
falls_of old new pin = bit_of old pin && not (bit_of new pin)

-- where the bits of timer 0 lie: TR0 is bit 4 of TCON; GATE and C/T are bits 3 and 2 of TMOD; its pins are P3.2 and P3.4
abbrev pub bits0 : TimerBits
bits0 = record { run = 4; gate = 3; external = 2; int_pin = 2; counted_pin = 4 }

-- and of timer 1: TR1 is bit 6 of TCON; GATE and C/T are bits 7 and 6 of TMOD; its pins are P3.3 and P3.5
abbrev pub bits1 : TimerBits
bits1 = record { run = 6; gate = 7; external = 6; int_pin = 3; counted_pin = 5 }

-- a timer runs if its run bit is 1, and GATE is 0 or its INT pin high
abbrev pub runs_of : TimerBits → ℕ → Timers → Bool
runs_of b pins t = bit_of t.tcon b.run && (not (bit_of t.tmod b.gate) || bit_of pins b.int_pin)

-- a timer that runs counts cycles, or with C/T at 1 the falls of its pin
abbrev pub is_due : TimerBits → ℕ → Timers → Bool
is_due b pins t = not (bit_of t.tmod b.external) || falls_of t.pins pins b.counted_pin

-- one timer of the table counted, and its flag in TCON set on overflow
abbrev pub counted : Timers → ℕ → ℕ → Bool × Timer → Timers
counted t n flag c = with_tcon (with_table t (slice_set t.table n c.1)) (cond c.0 (with_bit_of t.tcon flag true) t.tcon)

-- timer 0: TF0 is bit 5 of TCON; the mode is bits 1 and 0 of TMOD
abbrev pub timer0_of : ℕ → Timers → Timers
timer0_of pins t =
    cond (runs_of bits0 pins t && is_due bits0 pins t)
    (counted t 0 5 (count_of (mode_of t.tmod) (timer_of t 0)))
    t

-- a byte has mode 3 in its low two bits, as TMOD has while timer 0 is in mode 3
abbrev pub is_split : ℕ → Bool
is_split bits = bits % 4 == 3

-- then its TH counts cycles while TR1, bit 6 of TCON, is 1, and sets TF1, bit 7
abbrev pub upper0_of : Timers → Timers
upper0_of t = cond (is_split t.tmod && bit_of t.tcon 6) (counted t 0 7 (count_high (timer_of t 0))) t

-- timer 1, whose mode is bits 5 and 4 of TMOD: in mode 3 it stands still, and while timer 0 is in mode 3 it runs whatever TR1 and GATE are
abbrev pub counts1_of : ℕ → Timers → Bool
counts1_of pins t =
    not (is_split (t.tmod / 16)) && (is_split t.tmod || runs_of bits1 pins t) && is_due bits1 pins t

-- a count that sets no flag
abbrev pub silenced : Bool → Bool × Timer → Bool × Timer
silenced silent c = (c.0 && not silent, c.1)

-- timer 1 sets TF1, bit 7 of TCON, on overflow, but not while timer 0 is in mode 3
abbrev pub timer1_of : ℕ → Timers → Timers
timer1_of pins t =
    cond (counts1_of pins t) (counted t 1 7 (silenced (is_split t.tmod) (count_of (mode_of (t.tmod / 16)) (timer_of t 1)))) t

-- timer 0, then timer 1
abbrev pub timers_of : ℕ → Timers → Timers
timers_of pins t = timer1_of pins (upper0_of (timer0_of pins t))
