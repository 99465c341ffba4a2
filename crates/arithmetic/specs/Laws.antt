-- What the definitions mean.
use Rattle.std.specs.Prelude.{◌≡◌, ℕ, ◌+◌, ◌*◌, ◌/◌, ◌%◌, ◌<◌, Bool, true, false, cond, not, ◌&&◌, ◌==◌, nat_le, nat_lt}
use Rattle.arithmetic.specs.Flags.{as_bit, flags_of}
use Rattle.arithmetic.specs.Sums.{add_of, overflows, half_carries, carries, underflows, adjust_of}
use Rattle.arithmetic.specs.Shifts.{rotate_left_of, rotate_right_of, swap_of}
use Rattle.arithmetic.specs.Bits.{bit_of, with_bit_of, with_flags_of}

-- a byte as a signed number, plus 128: 0 for -128, 128 for 0, 255 for 127
abbrev pub raised : ℕ → ℕ
raised a = (a + 128) % 256

-- overflow says that the sum of the signed bytes and the carry does not lie between -128 and 127
abbrev pub SumsOverflow : Type 0
SumsOverflow = (a b : ℕ) (c : Bool) → a < 256 → b < 256
    → overflows a b c ≡ not (nat_le 128 (raised a + raised b + as_bit c) && nat_lt (raised a + raised b + as_bit c) 384)

-- overflow says that the difference of the signed bytes does not lie between -128 and 127
abbrev pub DifferencesOverflow : Type 0
DifferencesOverflow = (a b : ℕ) → a < 256 → b < 256
    → underflows a b ≡ not (nat_le (raised b) (raised a + 128) && nat_lt (raised a) (raised b + 128))

-- a number below 100 as two decimal digits
abbrev pub decimal : ℕ → ℕ
decimal n = 16 * (n / 10) + n % 10

-- the sum of two pairs of decimal digits, adjusted, is their decimal sum; carry says that it has a third digit
abbrev pub DecimalSums : Type 0
DecimalSums = (x y : ℕ) (c : Bool) → x < 100 → y < 100
    → adjust_of (add_of (decimal x) (decimal y) c).0 (carries (decimal x) (decimal y) c) (half_carries (decimal x) (decimal y) c)
    ≡ (decimal ((x + y + as_bit c) % 100), flags_of (nat_lt 99 (x + y + as_bit c)) false false)

-- two sums at the edges: 7FH and 01H, FFH and 01H
abbrev pub SumCases : Type 0
SumCases = (add_of 0x7f 0x01 false ≡ (0x80, flags_of false true true))
    × (add_of 0xff 0x01 false ≡ (0x00, flags_of true true false))

-- a rotate moves every bit by one place
abbrev pub BitsRotate : Type 0
BitsRotate = (a i : ℕ) → a < 256 → i < 8
    → (bit_of (rotate_left_of a) (i + 1) ≡ bit_of a i) × (bit_of (rotate_right_of a) i ≡ bit_of a (i + 1))

-- to exchange the digits is to rotate by four places
abbrev pub SwapRotates : Type 0
SwapRotates = (a : ℕ) → a < 256 → swap_of a ≡ rotate_left_of (rotate_left_of (rotate_left_of (rotate_left_of a)))

-- a bit that is put reads as it was put, and each other bit as before
abbrev pub BitsStand : Type 0
BitsStand = (a i j : ℕ) (value : Bool) → a < 256 → i < 8 → j < 8
    → bit_of (with_bit_of a i value) j ≡ cond (i == j) value (bit_of a j)

-- PSW with the carry, with carry and overflow, or with all three flags replaced: each stands in its bit, and the rest stays
abbrev pub FlagsStand : Type 0
FlagsStand = (psw : ℕ) (carry auxiliary overflow : Bool) → psw < 256
    → (with_flags_of psw 0x80 (flags_of carry auxiliary overflow) ≡ with_bit_of psw 7 carry)
    × (with_flags_of psw 0x84 (flags_of carry auxiliary overflow) ≡ with_bit_of (with_bit_of psw 7 carry) 2 overflow)
    × (with_flags_of psw 0xc4 (flags_of carry auxiliary overflow) ≡ with_bit_of (with_bit_of (with_bit_of psw 7 carry) 6 auxiliary) 2 overflow)
