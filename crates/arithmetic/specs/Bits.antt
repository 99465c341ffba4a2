-- Single bits of a byte, its parity, and the flags inside PSW.
use Rattle.std.specs.Prelude.{ℕ, ◌+◌, ◌-◌, ◌*◌, ◌/◌, ◌%◌, ◌^◌, Bool, ◌==◌, bit_and, bit_or, count_ones}
use Rattle.arithmetic.specs.Flags.{as_bit}

-- 1 where a byte has an odd number of ones
abbrev pub parity_of : ℕ → ℕ
parity_of a = count_ones a % 2

-- what bit i counts, with i modulo 8
abbrev pub weight : ℕ → ℕ
weight i = 2 ^ (i % 8)

-- bit i of a byte
abbrev pub bit_of : ℕ → ℕ → Bool
bit_of a i = a / weight i % 2 == 1

-- a byte with bit i put: less what that bit counted, and what it counts now
abbrev pub with_bit_of : ℕ → ℕ → Bool → ℕ
with_bit_of a i value = a - weight i * as_bit (bit_of a i) + weight i * as_bit value

-- PSW with the affected bits as in the flags, and its other bits as they were
abbrev pub with_flags_of : ℕ → ℕ → ℕ → ℕ
with_flags_of psw affected flags = bit_or (bit_and psw (255 - affected)) (bit_and flags affected)
