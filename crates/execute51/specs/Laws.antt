-- What every accepted instruction shows, whichever it is.
use Rattle.std.specs.Prelude.{◌≡◌, ℕ, ◌<◌, ◌≤◌, true, false, ◌≢◌, List, is_some, Some, None, Ok, Err, Option, Result, ◌==◌, slice_set}
use Rattle.records.specs.Port.{port_number}
use Rattle.buses.specs.Memory.{Memory}
use Rattle.instructions.specs.declared.Instruction.{Instruction}
use Rattle.instructions.specs.Operands.{operands_of}
use Rattle.core51.specs.declared.fault.Fault.{Fault}
use Rattle.core51.specs.declared.state.Registers.{Registers}
use Rattle.core51.specs.declared.state.Chip.{Chip}
use Rattle.execute51.specs.declared.external.Access.{Access}
use Rattle.execute51.specs.declared.external.Access.TheVariants.{Read, Write}
use Rattle.execute51.specs.declared.told.PortWrite.{PortWrite}
use Rattle.execute51.specs.declared.told.Told.{Told}
use Rattle.execute51.specs.Effect.{Effect, effect_of}

-- what an access does to the data bytes
abbrev pub Accessed : Option Access → (ℕ → Option ℕ) → (ℕ → Option ℕ) → Type 0
Accessed None old new = (x : ℕ) → new x ≡ old x
Accessed (Some (Read address byte)) old new = (old address ≡ Some byte) × ((x : ℕ) → new x ≡ old x)
Accessed (Some (Write address byte)) old new = (new address ≡ Some byte) × ((x : ℕ) → x ≢ address → new x ≡ old x)

-- what a port write does to the latches of the four ports
abbrev pub Latched : Option PortWrite → List ℕ → List ℕ → Type 0
Latched None old new = new ≡ old
Latched (Some w) old new = new ≡ slice_set old (port_number w.port) w.byte

-- the chip and the memory before, what is told, the chip and the memory after
pub record Shown (c : Chip) (m : Memory) (t : Told) (d : Chip) (n : Memory) : Type 0 where
  -- IE and IP stay if a poll follows, and no poll follows RETI
  pub same_control : t.polls ≡ true → d.control ≡ c.control
  pub reti_silent : t.is_reti ≡ true → t.polls ≡ false
  -- 1 to 4 cycles, and at most 2 if no poll follows
  pub some_cycle : 0 < t.cycles
  pub most_cycles : t.cycles ≤ 4
  pub silent_cycles : t.polls ≡ false → t.cycles ≤ 2
  -- the data bytes change as the access tells
  pub accesses : Accessed t.access m.store n.store
  -- the latches change as the port write tells
  pub latches : Latched t.port c.registers.latches d.registers.latches

-- a refused instruction tells nothing
abbrev pub Shows : Chip → Memory → Result Told Fault → Chip → Memory → Type 0
Shows c m (Ok t) d n = Shown c m t d n
Shows c m (Err e) d n = Unit {0}

-- what the opcode and the cycles of every accepted instruction show
pub record OpcodeShown (t : Told) : Type 0 where
  -- RETI is 32H
  pub reti_opcode : t.is_reti ≡ (t.opcode == 0x32)
  -- so 1, 2 or 4 cycles
  pub never_three : t.cycles ≢ 3

-- a refused instruction tells nothing
abbrev pub ShowsOpcode : Result Told Fault → Type 0
ShowsOpcode (Ok t) = OpcodeShown t
ShowsOpcode (Err e) = Unit {0}

-- an accepted effect answers a byte for a target exactly if the instruction has one
abbrev pub AnswersTarget : Instruction → Effect → Type 0
AnswersTarget i (Ok x) = is_some x.0.byte ≡ is_some (operands_of i).target
AnswersTarget i (Err e) = Unit {0}

-- so no byte is lost, and no target is left out
abbrev pub Targets : Type 0
Targets = (i : Instruction) (next target source : ℕ) (r : Registers) (m : Memory) → AnswersTarget i (effect_of i next target source r m)
