-- Parts of the registers that instructions share.
use Rattle.std.specs.Prelude.{ℕ, ◌+◌, ◌*◌, ◌/◌, ◌%◌, Bool, slice_index}
use Rattle.arithmetic.specs.Addresses.{word_of}
use Rattle.arithmetic.specs.Bits.{parity_of, bit_of, with_bit_of, with_flags_of}
use Rattle.core51.specs.declared.state.Registers.{Registers}
use Rattle.core51.specs.State.{with_psw, with_dpl, with_dph}

-- the carry is bit 7 of PSW
abbrev pub carry_of : Registers → Bool
carry_of r = bit_of r.psw 7

-- the carry put to a value
abbrev pub carried_of : Registers → Bool → Registers
carried_of r value = with_psw r (with_bit_of r.psw 7 value)

-- the affected flags put to those of a result
abbrev pub flagged_of : Registers → ℕ → ℕ → Registers
flagged_of r affected flags = with_psw r (with_flags_of r.psw affected flags)

-- DPTR is DPH and DPL
abbrev pub dptr_of : Registers → ℕ
dptr_of r = word_of r.dph r.dpl

-- DPTR put to an address
abbrev pub pointed_of : Registers → ℕ → Registers
pointed_of r address = with_dpl (with_dph r (address / 256)) (address % 256)

-- the byte in R0 or R1 of the bank that bits 4 and 3 of PSW choose
abbrev pub pointer_of : Registers → ℕ → ℕ
pointer_of r n = slice_index r.ram (r.psw / 8 % 4 * 8 + n % 2)

-- bit 0 of PSW is 1 where A has an odd number of ones
abbrev pub settled_of : Registers → Registers
settled_of r = with_psw r (r.psw / 2 * 2 + parity_of r.a)
