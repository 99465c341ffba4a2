-- The effect of any instruction on the registers and the memory.
use Rattle.std.specs.Prelude.{ℕ, None, Ok, Option, Result}
use Rattle.outcome.specs.Outcome.{then}
use Rattle.buses.specs.Memory.{Memory}
use Rattle.instructions.specs.declared.Instruction.{Instruction}
use Rattle.instructions.specs.declared.Instruction.TheVariants.{Arithmetic, Logical, Transfer, Boolean, Control}
use Rattle.core51.specs.declared.fault.Fault.{Fault}
use Rattle.core51.specs.declared.state.Registers.{Registers}
use Rattle.execute51.specs.declared.effect.Answer.{Answer}
use Rattle.execute51.specs.declared.external.Access.{Access}
use Rattle.execute51.specs.Arithmetic.{arithmetic_of}
use Rattle.execute51.specs.Logical.{logical_of}
use Rattle.execute51.specs.Transfer.{transfer_of}
use Rattle.execute51.specs.Boolean.{boolean_of}
use Rattle.execute51.specs.Control.{control_of}

-- no access to external data
abbrev pub inside_chip : Option ℕ → ℕ → Answer
inside_chip b n = record { byte = b; next = n; access = None }

-- with an access to external data, or none
abbrev pub answers : Option ℕ → ℕ → Option Access → Answer
answers b n a = record { byte = b; next = n; access = a }

-- what is answered, the registers and the memory; or a refusal
abbrev pub Effect : Type 0
Effect = Result (Answer × (Registers × Memory)) Fault

-- goes on with the next instruction
abbrev pub onward : ℕ → Memory → Option ℕ × Registers → Effect
onward next m x = Ok (inside_chip x.0 next, (x.1, m))

-- goes on where it says
abbrev pub jumping : Memory → (Option ℕ × ℕ) × Registers → Effect
jumping m x = Ok (inside_chip x.0.0 x.0.1, (x.1, m))

-- each group, with the address after the instruction and the bytes of its target and its source
abbrev pub effect_steps : Instruction → ℕ → ℕ → ℕ → Registers → Memory → Effect
effect_steps (Arithmetic i) next target source r m = onward next m (arithmetic_of i target source r)
effect_steps (Logical i) next target source r m = onward next m (logical_of i target source r)
effect_steps (Transfer i) next target source r m =
    then (transfer_of i next target source r m) (λ x. Ok (answers x.0.0 next x.0.1, x.1))
effect_steps (Boolean i) next target source r m = jumping m (boolean_of i next target source r)
effect_steps (Control i) next target source r m = then (control_of i next target source r) (λ x. jumping m x)

-- the same under a name that proofs do not look into unless they say so
unfoldable pub effect_of : Instruction → ℕ → ℕ → ℕ → Registers → Memory → Effect
effect_of i next target source r m = effect_steps i next target source r m
