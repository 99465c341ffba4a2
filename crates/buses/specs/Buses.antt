-- The meaning of the two buses that stand on lent memory.
use Rattle.std.specs.Prelude.{ℕ, Bool, false, cond, List, length, Some, None, Ok, Err, Option, Result, nat_lt, slice_index, slice_set}
use Rattle.buses.specs.declared.bus.BusFault.{BusFault}
use Rattle.buses.specs.declared.bus.BusFault.TheVariants.{NotFitted}
use Rattle.buses.specs.declared.split.SplitBus.{SplitBus}
use Rattle.buses.specs.declared.combined.CombinedBus.{CombinedBus}
use Rattle.buses.specs.Memory.{Memory}

-- whether the bytes reach an address
abbrev pub reaches : List ℕ → ℕ → Bool
reaches bytes address = nat_lt address (length bytes)

-- the byte at an address; past the end there is none
abbrev pub byte_at : List ℕ → ℕ → Option ℕ
byte_at bytes address = cond (reaches bytes address) (Some (slice_index bytes address)) None

-- a byte put at an address, and the bytes then; past the end not fitted
abbrev pub put_of : List ℕ → ℕ → ℕ → Result (Unit {0} × List ℕ) BusFault
put_of bytes address byte = cond (reaches bytes address) (Ok (tt, slice_set bytes address byte)) (Err NotFitted)

abbrev pub nowhere : ℕ → Bool
nowhere address = false

-- code and data apart: all data can be written, nothing is shared
abbrev pub split : List ℕ → List ℕ → Memory
split code store = record {
  code = byte_at code;
  store = byte_at store;
  writable = reaches store;
  shared = nowhere;
}

-- one memory for code and data: every fitted address can be written and is shared
abbrev pub combined : List ℕ → Memory
combined bytes = record {
  code = byte_at bytes;
  store = byte_at bytes;
  writable = reaches bytes;
  shared = reaches bytes;
}

-- the meaning of a split bus is that of what its two lent memories hold now
abbrev pub split_memory : SplitBus → Memory
split_memory bus = split bus.code.now bus.«data».now

-- the meaning of a combined bus is that of what its lent memory holds now
abbrev pub combined_memory : CombinedBus → Memory
combined_memory bus = combined bus.bytes.now
