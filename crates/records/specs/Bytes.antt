-- Numbers as bytes, and bytes in a memory.
use Rattle.std.specs.Prelude.{ℕ, ◌+◌, ◌*◌, ◌/◌, ◌%◌, cond, List, ◌++◌, length, drop, Ok, Err, Result, nat_lt}
use Rattle.records.specs.declared.refusals.Refusal.{Refusal}
use Rattle.records.specs.declared.refusals.Refusal.TheVariants.{TooLittleRoom}

-- the number that two bytes make, and that four make, high first
abbrev pub two_bytes : ℕ → ℕ → ℕ
two_bytes high low = high * 256 + low

abbrev pub four_bytes : ℕ → ℕ → ℕ → ℕ → ℕ
four_bytes b3 b2 b1 b0 = b3 * 16777216 + b2 * 65536 + b1 * 256 + b0

-- byte i of a number, counted from the low end
abbrev pub byte0 : ℕ → ℕ
byte0 n = n % 256

abbrev pub byte1 : ℕ → ℕ
byte1 n = n / 256 % 256

abbrev pub byte2 : ℕ → ℕ
byte2 n = n / 65536 % 256

abbrev pub byte3 : ℕ → ℕ
byte3 n = n / 16777216 % 256

-- bytes written to the front of a memory: what lies past them stays
abbrev pub stored : List ℕ → List ℕ → Result (Unit × List ℕ) Refusal
stored bytes out = cond (nat_lt (length out) (length bytes)) (Err TooLittleRoom) (Ok (tt, bytes ++ drop (length bytes) out))
