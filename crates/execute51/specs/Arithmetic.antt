-- Sums and differences into A, counting, multiplying, dividing, decimal adjustment.
use Rattle.std.specs.Prelude.{ℕ, ◌+◌, ◌%◌, false, Option}
use Rattle.arithmetic.specs.Bits.{bit_of}
use Rattle.arithmetic.specs.Sums.{add_of, subtract_of, multiply_of, divide_of, adjust_of}
use Rattle.instructions.specs.declared.Arithmetic.{Arithmetic}
use Rattle.instructions.specs.declared.Arithmetic.TheVariants.{Add, Addc, Subb, Inc, Dec, IncDptr, Mul, Div, Da}
use Rattle.core51.specs.declared.state.Registers.{Registers}
use Rattle.core51.specs.State.{with_a, with_b}
use Rattle.core51.specs.Registers.{carry_of, flagged_of, dptr_of, pointed_of}
use Rattle.execute51.specs.Values.{value_of, leaves, puts}

-- a result into A: carry, auxiliary carry and overflow are its flags
abbrev pub resulting : Registers → ℕ × ℕ → Registers
resulting r x = flagged_of (with_a r x.0) 0xc4 x.1

-- two bytes into A and B: carry and overflow are their flags
abbrev pub both_resulting : Registers → ℕ × ℕ × ℕ → Registers
both_resulting r x = flagged_of (with_b (with_a r x.0) x.1) 0x84 x.2

-- an adjusted byte into A: only the carry is affected
abbrev pub adjusting : Registers → ℕ × ℕ → Registers
adjusting r x = flagged_of (with_a r x.0) 0x80 x.1

-- each instruction, with the bytes of its target and its source
abbrev pub arithmetic_of : Arithmetic → ℕ → ℕ → Registers → Option ℕ × Registers
arithmetic_of (Add from) target source r = leaves (resulting r (add_of r.a (value_of from source) false))
arithmetic_of (Addc from) target source r = leaves (resulting r (add_of r.a (value_of from source) (carry_of r)))
arithmetic_of (Subb from) target source r = leaves (resulting r (subtract_of r.a (value_of from source) (carry_of r)))
arithmetic_of (Inc o) target source r = puts ((target + 1) % 256) r
arithmetic_of (Dec o) target source r = puts ((target + 255) % 256) r
arithmetic_of IncDptr target source r = leaves (pointed_of r ((dptr_of r + 1) % 65536))
arithmetic_of Mul target source r = leaves (both_resulting r (multiply_of r.a r.b))
arithmetic_of Div target source r = leaves (both_resulting r (divide_of r.a r.b))
arithmetic_of Da target source r = leaves (adjusting r (adjust_of r.a (carry_of r) (bit_of r.psw 6)))
