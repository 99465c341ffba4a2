-- The flags of an arithmetic result, as they stand in PSW.
use Rattle.std.specs.Prelude.{ℕ, ◌+◌, ◌*◌, Bool, true, false, not}

-- a test as a number: 1 where it holds
abbrev pub as_bit : Bool → ℕ
as_bit true = 1
as_bit false = 0

-- one of two tests holds, and not both
abbrev pub differ : Bool → Bool → Bool
differ true b = not b
differ false b = b

-- the flags' bits in PSW: carry, auxiliary carry, overflow
abbrev pub carry_bit : ℕ
carry_bit = 0x80

abbrev pub auxiliary_bit : ℕ
auxiliary_bit = 0x40

abbrev pub overflow_bit : ℕ
overflow_bit = 0x04

-- carry, auxiliary carry and overflow, each in its bit
abbrev pub flags_of : Bool → Bool → Bool → ℕ
flags_of carry auxiliary overflow = 0x80 * as_bit carry + 0x40 * as_bit auxiliary + 0x04 * as_bit overflow
