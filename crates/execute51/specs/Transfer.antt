-- Moves inside the chip, the stack, exchanges, code tables and external data.
use Rattle.std.specs.Prelude.{ℕ, Some, None, Ok, Option, Result}
use Rattle.outcome.specs.Outcome.{then}
use Rattle.arithmetic.specs.Addresses.{indexed_of}
use Rattle.arithmetic.specs.Shifts.{exchange_of}
use Rattle.buses.specs.Memory.{Memory}
use Rattle.instructions.specs.declared.External.{External}
use Rattle.instructions.specs.declared.Transfer.{Transfer}
use Rattle.instructions.specs.declared.Transfer.TheVariants.{Mov, MovDptr, MovcDptr, MovcPc, MovxRead, MovxWrite, Push, Pop, Xch, Xchd}
use Rattle.core51.specs.declared.fault.Fault.{Fault}
use Rattle.core51.specs.declared.state.Registers.{Registers}
use Rattle.core51.specs.State.{with_a}
use Rattle.core51.specs.Registers.{dptr_of, pointed_of}
use Rattle.core51.specs.Stack.{push_of, pop_of}
use Rattle.execute51.specs.declared.external.Access.{Access}
use Rattle.execute51.specs.declared.external.Access.TheVariants.{Read, Write}
use Rattle.execute51.specs.Values.{value_of, leaves, puts}
use Rattle.execute51.specs.External.{code_of, data_of, write_data_of, address_of}

-- a code byte into A, from a base address plus A
abbrev pub look_up_of : ℕ → Registers → Memory → Result (Option ℕ × Registers) Fault
look_up_of base r m = then (code_of m (indexed_of base r.a)) (λ byte. Ok (leaves (with_a r byte)))

-- a byte of external data into A
abbrev pub movx_read_of : External → Registers → Memory → Result (Access × Registers) Fault
movx_read_of from r m = then (data_of m (address_of r from)) (λ byte. Ok (Read (address_of r from) byte, with_a r byte))

-- A into external data
abbrev pub movx_write_of : External → Registers → Memory → Result (Access × Memory) Fault
movx_write_of to r m = then (write_data_of m (address_of r to) r.a) (λ x. Ok (Write (address_of r to) r.a, x.1))

-- the byte that the target becomes, the access to external data, the registers and the memory; or a refusal
abbrev pub Move : Type 0
Move = Result ((Option ℕ × Option Access) × (Registers × Memory)) Fault

-- inside the chip: no access to external data
abbrev pub inside : Memory → Option ℕ × Registers → (Option ℕ × Option Access) × (Registers × Memory)
inside m x = ((x.0, None), (x.1, m))

-- each instruction, with the next address and the bytes of its target and its source
abbrev pub transfer_of : Transfer → ℕ → ℕ → ℕ → Registers → Memory → Move
transfer_of (Mov o from) next target source r m = Ok (inside m (puts (value_of from source) r))
transfer_of (MovDptr address) next target source r m = Ok (inside m (leaves (pointed_of r address)))
transfer_of MovcDptr next target source r m = then (look_up_of (dptr_of r) r m) (λ x. Ok (inside m x))
transfer_of MovcPc next target source r m = then (look_up_of next r m) (λ x. Ok (inside m x))
transfer_of (MovxRead from) next target source r m = then (movx_read_of from r m) (λ x. Ok ((None, Some x.0), (x.1, m)))
transfer_of (MovxWrite to) next target source r m = then (movx_write_of to r m) (λ x. Ok ((None, Some x.0), (r, x.1)))
transfer_of (Push o) next target source r m = then (push_of r source) (λ x. Ok (inside m (leaves x.1)))
transfer_of (Pop o) next target source r m = then (pop_of r) (λ x. Ok (inside m (puts x.0 x.1)))
transfer_of (Xch o) next target source r m = Ok (inside m (puts r.a (with_a r target)))
transfer_of (Xchd n) next target source r m =
    Ok (inside m (puts (exchange_of r.a target).1 (with_a r (exchange_of r.a target).0)))
