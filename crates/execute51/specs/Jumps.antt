-- Jumps that are taken or not.
use Rattle.std.specs.Prelude.{ℕ, Bool, cond, None, Option}
use Rattle.arithmetic.specs.Addresses.{relative_of}
use Rattle.core51.specs.declared.state.Registers.{Registers}

-- the next address: that of a relative jump if it is taken
abbrev pub goes_of : ℕ → ℕ → Bool → ℕ
goes_of next offset taken = cond taken (relative_of next offset) next

-- nothing changes but the next address
abbrev pub goes : ℕ → Registers → (Option ℕ × ℕ) × Registers
goes address r = ((None, address), r)
