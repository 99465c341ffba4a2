-- Sum, difference, product, quotient and decimal adjustment, each with the flags that it gives.
use Rattle.std.specs.Prelude.{ℕ, ◌+◌, ◌-◌, ◌*◌, ◌/◌, ◌%◌, Bool, true, false, cond, ◌||◌, ◌==◌, nat_le, nat_lt}
use Rattle.arithmetic.specs.Flags.{as_bit, differ, flags_of}

-- the sum does not fit eight bits
abbrev pub carries : ℕ → ℕ → Bool → Bool
carries a b c = nat_lt 255 (a + b + as_bit c)

-- the sum of the low digits does not fit four bits
abbrev pub half_carries : ℕ → ℕ → Bool → Bool
half_carries a b c = nat_lt 15 (a % 16 + b % 16 + as_bit c)

-- there is a carry out of bit 7 or out of bit 6, and not both
abbrev pub overflows : ℕ → ℕ → Bool → Bool
overflows a b c = differ (carries a b c) (nat_lt 127 (a % 128 + b % 128 + as_bit c))

-- the sum of two bytes and a carry
abbrev pub add_of : ℕ → ℕ → Bool → ℕ × ℕ
add_of a b c = ((a + b + as_bit c) % 256, flags_of (carries a b c) (half_carries a b c) (overflows a b c))

-- the byte that is compared and subtracted: source and borrow in eight bits
abbrev pub subtrahend : ℕ → Bool → ℕ
subtrahend source borrow = (source + as_bit borrow) % 256

-- there is a borrow into bit 7 or into bit 6, and not both
abbrev pub underflows : ℕ → ℕ → Bool
underflows a b = differ (nat_lt a b) (nat_lt (a % 128) (b % 128))

-- one byte less another: carry is a borrow, auxiliary carry a borrow into bit 3
abbrev pub less_of : ℕ → ℕ → ℕ × ℕ
less_of a b = ((a + 256 - b) % 256, flags_of (nat_lt a b) (nat_lt (a % 16) (b % 16)) (underflows a b))

abbrev pub subtract_of : ℕ → ℕ → Bool → ℕ × ℕ
subtract_of a source borrow = less_of a (subtrahend source borrow)

-- low byte and high byte of the product; overflow where the high byte is not 0
abbrev pub multiply_of : ℕ → ℕ → ℕ × ℕ × ℕ
multiply_of a b = ((a * b) % 256, (a * b) / 256, flags_of false false (nat_lt 255 (a * b)))

-- quotient and remainder; by 0 both bytes stay and overflow is set
abbrev pub divide_of : ℕ → ℕ → ℕ × ℕ × ℕ
divide_of a b = cond (b == 0) (a, b, flags_of false false true) (a / b, a % b, flags_of false false false)

-- a byte and a carry, where a digit is to be corrected: the byte grows, and the carry is set if it does not fit
abbrev pub corrected : Bool → ℕ → ℕ × Bool → ℕ × Bool
corrected true by s = ((s.0 + by) % 256, s.1 || nat_le (256 - by) s.0)
corrected false by s = s

-- the low digit is corrected if it is above 9 or there was an auxiliary carry
abbrev pub low_corrected : Bool → ℕ × Bool → ℕ × Bool
low_corrected auxiliary s = corrected (nat_lt 9 (s.0 % 16) || auxiliary) 6 s

-- the high digit is corrected if it is above 9 or there is a carry
abbrev pub high_corrected : ℕ × Bool → ℕ × Bool
high_corrected s = corrected (nat_lt 9 (s.0 / 16) || s.1) 96 s

-- decimal adjustment: first the low digit, then the high one
abbrev pub adjusted : ℕ → Bool → Bool → ℕ × Bool
adjusted a carry auxiliary = high_corrected (low_corrected auxiliary (a, carry))

abbrev pub adjust_of : ℕ → Bool → Bool → ℕ × ℕ
adjust_of a carry auxiliary = ((adjusted a carry auxiliary).0, flags_of (adjusted a carry auxiliary).1 false false)
