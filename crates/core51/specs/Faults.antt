-- The refusals of the emulated program.
use Rattle.std.specs.Prelude.{ℕ}
use Rattle.buses.specs.declared.bus.BusFault.{BusFault}
use Rattle.buses.specs.declared.bus.BusFault.TheVariants.{NotFitted, Fenced}
use Rattle.core51.specs.declared.fault.Fault.{Fault}
use Rattle.core51.specs.declared.fault.Fault.TheVariants.{TimeOver, CodeNotFitted, NoInstruction, NoRegister, NoRam, DataNotFitted, DataFenced}

-- the number of every refusal
abbrev pub number_of : Fault → ℕ
number_of TimeOver = 10
number_of CodeNotFitted = 11
number_of NoInstruction = 12
number_of NoRegister = 13
number_of NoRam = 14
number_of DataNotFitted = 15
number_of DataFenced = 16

-- why an access to external data is refused
abbrev pub fault_of : BusFault → Fault
fault_of NotFitted = DataNotFitted
fault_of Fenced = DataFenced
