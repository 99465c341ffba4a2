-- The new machine, and the reset.
use Rattle.std.specs.Prelude.{ℕ, false, List, replicate, None}
use Rattle.boards.specs.Board.{Pins, drive_of}
use Rattle.core51.specs.declared.state.Registers.{Registers}
use Rattle.core51.specs.declared.state.Timers.{Timers}
use Rattle.core51.specs.declared.state.Chip.{Chip}
use Rattle.cycles.specs.declared.machine.Interrupts.{Interrupts}
use Rattle.cycles.specs.State.{State}
use Rattle.step51.specs.World.{World, world}

-- PC 0000H, SP 07H, the ports FFH, the others 00H, with this RAM
abbrev pub reset_registers : List ℕ → Registers
reset_registers ram = record {
  a = 0;
  b = 0;
  psw = 0;
  sp = 7;
  dpl = 0;
  dph = 0;
  latches = replicate 4 255;
  pc = 0;
  ram = ram;
}

-- the old pins count as high
abbrev pub fresh_timers : Timers
fresh_timers = record { table = replicate 2 (record { low = 0; high = 0 }); tcon = 0; tmod = 0; pins = 255 }

-- all but the registers of the processor
abbrev pub fresh_chip : Registers → Chip
fresh_chip r = record {
  registers = r;
  timers = fresh_timers;
  control = record { ie = 0; ip = 0 };
  serial = record { scon = 0; sbuf = 0 };
}

-- no service in progress, no accepted request, nothing sampled
abbrev pub fresh_interrupts : Interrupts
fresh_interrupts = record {
  marks = record { low = false; high = false };
  accepted = None;
  sample = record { external0 = false; timer0 = false; external1 = false; timer1 = false; serial = false };
}

-- the state after a reset, with this RAM and no cycle counted
abbrev pub fresh_state : List ℕ → State
fresh_state ram = record {
  chip = fresh_chip (reset_registers ram);
  interrupts = fresh_interrupts;
  cycles = 0;
}

-- a reset keeps the RAM
abbrev pub reset_state : State → State
reset_state s = fresh_state s.chip.registers.ram

-- FFH is driven to all four ports
abbrev pub all_high : {S : Type 0} → Pins S → Pins S
all_high b = drive_of (drive_of (drive_of (drive_of b 0 255) 1 255) 2 255) 3 255

-- a new machine on any bus and any board: all RAM bytes are 00H, and nothing is driven
abbrev pub new_world : {S : Type 0} → World S → World S
new_world w = world (fresh_state (replicate 128 0)) w.memory w.pins

-- the reset
abbrev pub reset_of : {S : Type 0} → World S → World S
reset_of w = world (reset_state w.state) w.memory (all_high w.pins)
