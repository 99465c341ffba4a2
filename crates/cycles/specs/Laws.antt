-- What the definitions come to at some edges.
use Rattle.std.specs.Prelude.{◌≡◌, ℕ, false, [], ◌∷◌, Some, None, Option}
use Rattle.instructions.specs.Tables.{vector_of}
use Rattle.core51.specs.declared.state.Timer.{Timer}
use Rattle.core51.specs.declared.state.Timers.{Timers}
use Rattle.cycles.specs.declared.poll.Request.{Request}
use Rattle.cycles.specs.Timers.{with_bytes, timer0_of, timer1_of}
use Rattle.cycles.specs.Sample.{sample_of}
use Rattle.cycles.specs.Poll.{poll_of}
use Rattle.cycles.specs.Vector.{marks_of}

abbrev pub both_timers : Timer → Timer → (tcon tmod pins : ℕ) → Timers
both_timers a b c m p = record { table = a ∷ b ∷ []; tcon = c; tmod = m; pins = p }

-- where the service of an accepted request begins
abbrev pub vector_accepted : Option Request → Option ℕ
vector_accepted None = None
vector_accepted (Some r) = Some (vector_of r.source)

-- the vector by TCON, IE and IP, with no service in progress and no serial request
abbrev pub called_by : (tcon ie ip : ℕ) → Option ℕ
called_by tcon ie ip = vector_accepted (poll_of (sample_of tcon 0x00) ie ip (marks_of false false))

-- a running timer overflows
pub record Overflows : Type 0 where
  -- mode 0, TH FFH, TL 1FH, the timer running: both become 00H, and TF0 or TF1 is set
  pub mode0_timer0 : (old pins : ℕ) (other : Timer) → timer0_of pins (both_timers (with_bytes 0x1f 0xff) other 0x10 0x00 old) ≡ both_timers (with_bytes 0x00 0x00) other 0x30 0x00 old
  pub mode0_timer1 : (old pins : ℕ) (other : Timer) → timer1_of pins (both_timers other (with_bytes 0x1f 0xff) 0x40 0x00 old) ≡ both_timers other (with_bytes 0x00 0x00) 0xc0 0x00 old
  -- mode 2, TL FFH, TH F0H, the timer running: TL becomes F0H, and TF0 or TF1 is set
  pub mode2_timer0 : (old pins : ℕ) (other : Timer) → timer0_of pins (both_timers (with_bytes 0xff 0xf0) other 0x10 0x02 old) ≡ both_timers (with_bytes 0xf0 0xf0) other 0x30 0x02 old
  pub mode2_timer1 : (old pins : ℕ) (other : Timer) → timer1_of pins (both_timers other (with_bytes 0xff 0xf0) 0x40 0x20 old) ≡ both_timers other (with_bytes 0xf0 0xf0) 0xc0 0x20 old
