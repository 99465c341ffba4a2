-- The bytes of an instruction.
use Rattle.std.specs.Prelude.{ℕ, ◌+◌, ◌%◌, cond, Ok, Result, nat_lt}
use Rattle.outcome.specs.Outcome.{then}
use Rattle.buses.specs.Memory.{Memory}
use Rattle.instructions.specs.Tables.{length_of}
use Rattle.core51.specs.declared.fault.Fault.{Fault}
use Rattle.execute51.specs.declared.fetch.Fetched.{Fetched}
use Rattle.execute51.specs.External.{code_of}

-- code addresses count modulo 65,536
abbrev pub ahead : ℕ → ℕ → ℕ
ahead pc n = (pc + n) % 65536

-- byte k of an instruction of a size, 0 where it has none
abbrev pub operand_byte : Memory → ℕ → ℕ → ℕ → Result ℕ Fault
operand_byte m pc size k = cond (nat_lt k size) (code_of m (ahead pc k)) (Ok 0)

-- the opcode gives the size
abbrev pub fetch_steps : Memory → ℕ → Result Fetched Fault
fetch_steps m pc =
    then (code_of m pc) (λ op.
    then (operand_byte m pc (length_of op) 1) (λ x.
    then (operand_byte m pc (length_of op) 2) (λ y.
    Ok (record { opcode = op; first = x; second = y; next = ahead pc (length_of op) }))))

-- the same under a name that proofs do not look into unless they say so
unfoldable pub fetch_of : Memory → ℕ → Result Fetched Fault
fetch_of m pc = fetch_steps m pc
