-- The carry, single bits, and jumps on them.
use Rattle.std.specs.Prelude.{ℕ, Bool, true, false, not, ◌&&◌, ◌||◌, Some, None, Option}
use Rattle.arithmetic.specs.Bits.{bit_of, with_bit_of}
use Rattle.instructions.specs.declared.Boolean.{Boolean}
use Rattle.instructions.specs.declared.Boolean.TheVariants.{ClrC, Clr, SetbC, Setb, CplC, Cpl, AnlC, AnlCNot, OrlC, OrlCNot, MovC, MovBit, Jc, Jnc, Jb, Jnb, Jbc}
use Rattle.core51.specs.declared.state.Registers.{Registers}
use Rattle.core51.specs.Registers.{carry_of, carried_of}
use Rattle.execute51.specs.Jumps.{goes_of, goes}

-- the carry becomes a value
abbrev pub carry_becomes : ℕ → Bool → Registers → (Option ℕ × ℕ) × Registers
carry_becomes next value r = ((None, next), carried_of r value)

-- one bit of the target becomes a value
abbrev pub bit_becomes : ℕ → ℕ → ℕ → Bool → Registers → (Option ℕ × ℕ) × Registers
bit_becomes next target b value r = ((Some (with_bit_of target b value), next), r)

-- each instruction, with the next address and the bytes of its target and its source
abbrev pub boolean_of : Boolean → ℕ → ℕ → ℕ → Registers → (Option ℕ × ℕ) × Registers
boolean_of ClrC next target source r = carry_becomes next false r
boolean_of (Clr b) next target source r = bit_becomes next target b false r
boolean_of SetbC next target source r = carry_becomes next true r
boolean_of (Setb b) next target source r = bit_becomes next target b true r
boolean_of CplC next target source r = carry_becomes next (not (carry_of r)) r
boolean_of (Cpl b) next target source r = bit_becomes next target b (not (bit_of target b)) r
boolean_of (AnlC b) next target source r = carry_becomes next (carry_of r && bit_of source b) r
boolean_of (AnlCNot b) next target source r = carry_becomes next (carry_of r && not (bit_of source b)) r
boolean_of (OrlC b) next target source r = carry_becomes next (carry_of r || bit_of source b) r
boolean_of (OrlCNot b) next target source r = carry_becomes next (carry_of r || not (bit_of source b)) r
boolean_of (MovC b) next target source r = carry_becomes next (bit_of source b) r
boolean_of (MovBit b) next target source r = bit_becomes next target b (carry_of r) r
boolean_of (Jc offset) next target source r = goes (goes_of next offset (carry_of r)) r
boolean_of (Jnc offset) next target source r = goes (goes_of next offset (not (carry_of r))) r
boolean_of (Jb b offset) next target source r = goes (goes_of next offset (bit_of source b)) r
boolean_of (Jnb b offset) next target source r = goes (goes_of next offset (not (bit_of source b))) r
boolean_of (Jbc b offset) next target source r = bit_becomes (goes_of next offset (bit_of target b)) target b false r
