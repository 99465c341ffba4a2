-- Addresses of sixteen bits.
use Rattle.std.specs.Prelude.{ℕ, ◌+◌, ◌-◌, ◌*◌, ◌/◌, ◌%◌, cond, nat_lt}

-- sixteen bits from their high and low byte
abbrev pub word_of : ℕ → ℕ → ℕ
word_of high low = high * 256 + low

-- 0 to 127 forward; 128 to 255 is 128 to 1 back
abbrev pub relative_of : ℕ → ℕ → ℕ
relative_of next offset = cond (nat_lt offset 128) ((next + offset) % 65536) ((next + 65536 - (256 - offset)) % 65536)

-- the block of 2,048 bytes stays, and the eleven bits give the place in it
abbrev pub absolute_of : ℕ → ℕ → ℕ
absolute_of next place = next / 2048 * 2048 + place % 2048

-- a base address and a byte
abbrev pub indexed_of : ℕ → ℕ → ℕ
indexed_of base a = (base + a) % 65536
