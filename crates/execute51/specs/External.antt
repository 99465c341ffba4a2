-- Code bytes and external data bytes, by the bus.
use Rattle.std.specs.Prelude.{ℕ, Ok, Err, Result}
use Rattle.buses.specs.declared.bus.BusFault.{BusFault}
use Rattle.buses.specs.Memory.{Memory, answer, write_of}
use Rattle.instructions.specs.declared.External.{External}
use Rattle.instructions.specs.declared.External.TheVariants.{Pointer, Register}
use Rattle.core51.specs.declared.fault.Fault.{Fault}
use Rattle.core51.specs.declared.fault.Fault.TheVariants.{CodeNotFitted}
use Rattle.core51.specs.declared.state.Registers.{Registers}
use Rattle.core51.specs.Faults.{fault_of}
use Rattle.core51.specs.Registers.{dptr_of, pointer_of}

-- a refusal of the bus, at external data and at code
abbrev pub as_data : {A : Type 0} → Result A BusFault → Result A Fault
as_data (Ok x) = Ok x
as_data (Err fault) = Err (fault_of fault)

abbrev pub as_code : {A : Type 0} → Result A BusFault → Result A Fault
as_code (Ok x) = Ok x
as_code (Err fault) = Err CodeNotFitted

-- a byte of the code
abbrev pub code_of : Memory → ℕ → Result ℕ Fault
code_of m address = as_code (answer (m.code address))

-- a byte of external data
abbrev pub data_of : Memory → ℕ → Result ℕ Fault
data_of m address = as_data (answer (m.store address))

-- a byte of external data written
abbrev pub write_data_of : Memory → ℕ → ℕ → Result (Unit {0} × Memory) Fault
write_data_of m address byte = as_data (write_of m address byte)

-- the address of a byte of external data: DPTR, or R0 or R1 in page 0
abbrev pub address_of : Registers → External → ℕ
address_of r Pointer = dptr_of r
address_of r (Register n) = pointer_of r n
