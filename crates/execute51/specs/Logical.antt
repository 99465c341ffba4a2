-- And, or, exclusive or; clearing, complementing and rotating A.
use Rattle.std.specs.Prelude.{ℕ, ◌-◌, Option, bit_and, bit_or, bit_xor}
use Rattle.arithmetic.specs.Shifts.{rotate_left_of, rotate_right_of, carry_left_of, carry_right_of, swap_of}
use Rattle.instructions.specs.declared.Logical.{Logical}
use Rattle.instructions.specs.declared.Logical.TheVariants.{Anl, Orl, Xrl, ClrA, CplA, Rl, Rlc, Rr, Rrc, Swap}
use Rattle.core51.specs.declared.state.Registers.{Registers}
use Rattle.core51.specs.State.{with_a}
use Rattle.core51.specs.Registers.{carry_of, flagged_of}
use Rattle.execute51.specs.Values.{value_of, leaves, puts}

-- a rotated byte into A: the carry is the bit that it gives
abbrev pub rotated : Registers → ℕ × ℕ → Registers
rotated r x = flagged_of (with_a r x.0) 0x80 x.1

-- each instruction, with the bytes of its target and its source
abbrev pub logical_of : Logical → ℕ → ℕ → Registers → Option ℕ × Registers
logical_of (Anl o from) target source r = puts (bit_and target (value_of from source)) r
logical_of (Orl o from) target source r = puts (bit_or target (value_of from source)) r
logical_of (Xrl o from) target source r = puts (bit_xor target (value_of from source)) r
logical_of ClrA target source r = leaves (with_a r 0)
logical_of CplA target source r = leaves (with_a r (255 - r.a))
logical_of Rl target source r = leaves (with_a r (rotate_left_of r.a))
logical_of Rlc target source r = leaves (rotated r (carry_left_of r.a (carry_of r)))
logical_of Rr target source r = leaves (with_a r (rotate_right_of r.a))
logical_of Rrc target source r = leaves (rotated r (carry_right_of r.a (carry_of r)))
logical_of Swap target source r = leaves (with_a r (swap_of r.a))
