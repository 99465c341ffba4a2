-- What an instruction works with, and what it answers.
use Rattle.std.specs.Prelude.{ℕ, Some, None, Option}
use Rattle.instructions.specs.declared.Source.{Source}
use Rattle.instructions.specs.declared.Source.TheVariants.{Named, Immediate}
use Rattle.core51.specs.declared.state.Registers.{Registers}

-- the byte of a source: a constant, or what the named place shows
abbrev pub value_of : Source → ℕ → ℕ
value_of (Named o) byte = byte
value_of (Immediate n) byte = n

-- an effect on the registers that puts no byte into a target
abbrev pub leaves : Registers → Option ℕ × Registers
leaves r = (None, r)

-- one that puts a byte into its target
abbrev pub puts : ℕ → Registers → Option ℕ × Registers
puts byte r = (Some byte, r)
