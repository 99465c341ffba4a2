-- What the law of whole histories sees of the machine.
use Rattle.std.specs.Prelude.{ℕ, Bool, false, cond, not, ◌&&◌, ◌||◌, [], ◌∷◌, Some, None, Option, slice_index_or}
use Rattle.records.specs.declared.traces.Marks.{Marks}
use Rattle.arithmetic.specs.Bits.{bit_of}
use Rattle.boards.specs.Board.{level_of}
use Rattle.cycles.specs.declared.sample.Sample.{Sample}
use Rattle.cycles.specs.declared.poll.Level.{Level}
use Rattle.cycles.specs.declared.poll.Level.TheVariants.{Low, High}
use Rattle.cycles.specs.declared.poll.Request.{Request}
use Rattle.cycles.specs.Sample.{requests}
use Rattle.step51.specs.World.{World}
use Rattle.history.specs.Events.{Closing}
use Rattle.history.specs.Laws.{View}

-- Whether source s is one of these. The sources are numbered 1 to 5: IE0, TF0, IE1, TF1, RI or TI.
abbrev pub among : Sample → ℕ → Bool
among x s = slice_index_or (false ∷ x.external0 ∷ x.timer0 ∷ x.external1 ∷ x.timer1 ∷ x.serial ∷ []) s false

-- the sources whose bit is 1 in IE or IP
abbrev pub sources_of : ℕ → Sample
sources_of byte = requests (bit_of byte 0) (bit_of byte 1) (bit_of byte 2) (bit_of byte 3) (bit_of byte 4)

-- an external request: its flag is 1, or its activation bit 0 and the board's level has its pin low
abbrev pub external_held : (flag activation level : Bool) → Bool
external_held flag activation level = flag || (not activation && not level)

-- the sources whose request is held, by TCON, SCON and the board's level of port 3
abbrev pub held_of : ℕ → ℕ → ℕ → Sample
held_of tcon scon level =
    requests (external_held (bit_of tcon 1) (bit_of tcon 0) (bit_of level 2)) (bit_of tcon 5)
    (external_held (bit_of tcon 3) (bit_of tcon 2) (bit_of level 3)) (bit_of tcon 7) (bit_of scon 0 || bit_of scon 1)

-- the low level is 0, the high level 1
abbrev pub level_number : Level → ℕ
level_number Low = 0
level_number High = 1

-- the level of the accepted request
abbrev pub pending_of : Option Request → Option ℕ
pending_of None = None
pending_of (Some q) = Some (level_number q.level)

-- whether a service of level i is in progress
abbrev pub serving_of : Marks → ℕ → Bool
serving_of m i = slice_index_or (m.low ∷ m.high ∷ []) i false

-- whether IE enables source s: its bit is 1, and bit 7, which enables all
abbrev pub enabled_of : ℕ → ℕ → Bool
enabled_of ie s = bit_of ie 7 && among (sources_of ie) s

-- the level that IP gives to source s
abbrev pub level_by : ℕ → ℕ → ℕ
level_by ip s = cond (among (sources_of ip) s) 1 0

-- how a machine cycle closed
abbrev pub closing_of : {S : Type 0} → World S → Closing
closing_of w = record {
  held = among (held_of w.state.chip.timers.tcon w.state.chip.serial.scon (level_of w.pins 3));
  enabled = enabled_of w.state.chip.control.ie;
  level = level_by w.state.chip.control.ip;
  serving = serving_of w.state.interrupts.marks;
}

-- that, the sample, the level of the accepted request, and the data bytes of the bus
abbrev pub view_of : {S : Type 0} → World S → View
view_of w = record {
  shown = closing_of w;
  sampled = among w.state.interrupts.sample;
  pending = pending_of w.state.interrupts.accepted;
  memory = w.memory.store;
}
