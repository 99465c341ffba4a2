-- Calls, returns, jumps, compare and count.
use Rattle.std.specs.Prelude.{ℕ, ◌+◌, ◌%◌, not, Some, Ok, Option, Result, ◌==◌, nat_lt}
use Rattle.outcome.specs.Outcome.{then}
use Rattle.arithmetic.specs.Addresses.{relative_of, absolute_of, indexed_of}
use Rattle.instructions.specs.declared.Source.TheVariants.{Named, Immediate}
use Rattle.instructions.specs.declared.Control.{Control}
use Rattle.instructions.specs.declared.Control.TheVariants.{Acall, Lcall, Ret, Reti, Ajmp, Ljmp, Sjmp, JmpDptr, Jz, Jnz, Cjne, Djnz, Nop}
use Rattle.core51.specs.declared.fault.Fault.{Fault}
use Rattle.core51.specs.declared.state.Registers.{Registers}
use Rattle.core51.specs.Registers.{carried_of, dptr_of}
use Rattle.core51.specs.Stack.{push_address_of, pop_address_of}
use Rattle.execute51.specs.Jumps.{goes_of, goes}

-- the byte that the target becomes, the next address, and the registers; or a refusal
abbrev pub Jump : Type 0
Jump = Result ((Option ℕ × ℕ) × Registers) Fault

-- a call pushes the address of the next instruction
abbrev pub call_of : ℕ → ℕ → Registers → Jump
call_of next address r = then (push_address_of r next) (λ x. Ok (goes address x.1))

-- a return pops the next address
abbrev pub return_of : Registers → Jump
return_of r = then (pop_address_of r) (λ x. Ok (goes x.0 x.1))

-- the carry tells that the first byte is below the second; the jump is taken where they differ
abbrev pub compares : ℕ → ℕ → ℕ → ℕ → Registers → (Option ℕ × ℕ) × Registers
compares next offset first second r = goes (goes_of next offset (not (first == second))) (carried_of r (nat_lt first second))

-- the target counts down; the jump is taken where it is not 0
abbrev pub counts : ℕ → ℕ → ℕ → Registers → (Option ℕ × ℕ) × Registers
counts next offset count r = ((Some count, goes_of next offset (not (count == 0))), r)

-- each instruction, with the next address and the bytes of its target and its source; only A is compared with a named byte
abbrev pub control_of : Control → ℕ → ℕ → ℕ → Registers → Jump
control_of (Acall place) next target source r = call_of next (absolute_of next place) r
control_of (Lcall address) next target source r = call_of next address r
control_of Ret next target source r = return_of r
control_of Reti next target source r = return_of r
control_of (Ajmp place) next target source r = Ok (goes (absolute_of next place) r)
control_of (Ljmp address) next target source r = Ok (goes address r)
control_of (Sjmp offset) next target source r = Ok (goes (relative_of next offset) r)
control_of JmpDptr next target source r = Ok (goes (indexed_of (dptr_of r) r.a) r)
control_of (Jz offset) next target source r = Ok (goes (goes_of next offset (r.a == 0)) r)
control_of (Jnz offset) next target source r = Ok (goes (goes_of next offset (not (r.a == 0))) r)
control_of (Cjne left (Named right) offset) next target source r = Ok (compares next offset r.a source r)
control_of (Cjne left (Immediate n) offset) next target source r = Ok (compares next offset source n r)
control_of (Djnz o offset) next target source r = Ok (counts next offset ((target + 255) % 256) r)
control_of Nop next target source r = Ok (goes next r)
