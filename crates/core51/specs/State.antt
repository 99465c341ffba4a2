-- The state with one of its parts replaced.
use Rattle.std.specs.Prelude.{ℕ, List}
use Rattle.core51.specs.declared.state.Registers.{Registers}
use Rattle.core51.specs.declared.state.Timer.{Timer}
use Rattle.core51.specs.declared.state.Timers.{Timers}
use Rattle.core51.specs.declared.state.Control.{Control}
use Rattle.core51.specs.declared.state.Serial.{Serial}
use Rattle.core51.specs.declared.state.Chip.{Chip}

abbrev pub with_a : Registers → ℕ → Registers
with_a r x = record r { a = x }

abbrev pub with_b : Registers → ℕ → Registers
with_b r x = record r { b = x }

abbrev pub with_psw : Registers → ℕ → Registers
with_psw r x = record r { psw = x }

abbrev pub with_sp : Registers → ℕ → Registers
with_sp r x = record r { sp = x }

abbrev pub with_dpl : Registers → ℕ → Registers
with_dpl r x = record r { dpl = x }

abbrev pub with_dph : Registers → ℕ → Registers
with_dph r x = record r { dph = x }

abbrev pub with_latches : Registers → List ℕ → Registers
with_latches r x = record r { latches = x }

abbrev pub with_pc : Registers → ℕ → Registers
with_pc r x = record r { pc = x }

abbrev pub with_ram : Registers → List ℕ → Registers
with_ram r x = record r { ram = x }

abbrev pub with_low : Timer → ℕ → Timer
with_low t x = record t { low = x }

abbrev pub with_high : Timer → ℕ → Timer
with_high t x = record t { high = x }

abbrev pub with_table : Timers → List Timer → Timers
with_table t x = record t { table = x }

abbrev pub with_tcon : Timers → ℕ → Timers
with_tcon t x = record t { tcon = x }

abbrev pub with_tmod : Timers → ℕ → Timers
with_tmod t x = record t { tmod = x }

abbrev pub with_ie : Control → ℕ → Control
with_ie c x = record c { ie = x }

abbrev pub with_ip : Control → ℕ → Control
with_ip c x = record c { ip = x }

abbrev pub with_scon : Serial → ℕ → Serial
with_scon s x = record s { scon = x }

abbrev pub with_sbuf : Serial → ℕ → Serial
with_sbuf s x = record s { sbuf = x }

abbrev pub with_registers : Chip → Registers → Chip
with_registers c x = record c { registers = x }

abbrev pub with_timers : Chip → Timers → Chip
with_timers c x = record c { timers = x }

abbrev pub with_control : Chip → Control → Chip
with_control c x = record c { control = x }

abbrev pub with_serial : Chip → Serial → Chip
with_serial c x = record c { serial = x }
