-- Rotates, and exchanges of digits.
use Rattle.std.specs.Prelude.{ℕ, ◌+◌, ◌*◌, ◌/◌, ◌%◌, Bool, false, ◌==◌, nat_lt}
use Rattle.arithmetic.specs.Flags.{as_bit, flags_of}

-- twice the byte, with bit 7 as bit 0
abbrev pub rotate_left_of : ℕ → ℕ
rotate_left_of a = (2 * a) % 256 + a / 128

-- half the byte, with bit 0 as bit 7
abbrev pub rotate_right_of : ℕ → ℕ
rotate_right_of a = a / 2 + 128 * (a % 2)

-- twice the byte, with the carry as bit 0; bit 7 is the new carry
abbrev pub carry_left_of : ℕ → Bool → ℕ × ℕ
carry_left_of a c = ((2 * a) % 256 + as_bit c, flags_of (nat_lt 127 a) false false)

-- half the byte, with the carry as bit 7; bit 0 is the new carry
abbrev pub carry_right_of : ℕ → Bool → ℕ × ℕ
carry_right_of a c = (a / 2 + 128 * as_bit c, flags_of (a % 2 == 1) false false)

-- the low digit as the high one, and the high as the low
abbrev pub swap_of : ℕ → ℕ
swap_of a = 16 * (a % 16) + a / 16

-- each byte with the low digit of the other
abbrev pub exchange_of : ℕ → ℕ → ℕ × ℕ
exchange_of a m = (16 * (a / 16) + m % 16, 16 * (m / 16) + a % 16)
