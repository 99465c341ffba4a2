-- One instruction: fetched, decoded, its places looked up, its effect made, its byte put back, PC stored last.
use Rattle.std.specs.Prelude.{ℕ, Bool, true, false, cond, Some, None, Ok, Err, Option, Result}
use Rattle.outcome.specs.Outcome.{then}
use Rattle.boards.specs.Board.{Pins}
use Rattle.buses.specs.Memory.{Memory}
use Rattle.instructions.specs.declared.Instruction.{Instruction}
use Rattle.instructions.specs.declared.Instruction.TheVariants.{Arithmetic, Logical, Transfer, Boolean, Control}
use Rattle.instructions.specs.declared.Transfer.{Transfer as TransferGroup}
use Rattle.instructions.specs.declared.Transfer.TheVariants.{Mov, MovDptr, MovcDptr, MovcPc, MovxRead, MovxWrite, Push, Pop, Xch, Xchd}
use Rattle.instructions.specs.Decode.{decode_of}
use Rattle.instructions.specs.Operands.{operands_of}
use Rattle.core51.specs.declared.fault.Fault.{Fault}
use Rattle.core51.specs.declared.fault.Fault.TheVariants.{NoInstruction}
use Rattle.core51.specs.declared.places.Place.{Place}
use Rattle.core51.specs.declared.state.Registers.{Registers}
use Rattle.core51.specs.declared.state.Chip.{Chip}
use Rattle.core51.specs.State.{with_pc, with_registers}
use Rattle.core51.specs.Registers.{settled_of}
use Rattle.core51.specs.Operands.{places_of, held_of, read_of, committed_of}
use Rattle.execute51.specs.declared.effect.Answer.{Answer}
use Rattle.execute51.specs.declared.told.Done.{Done}
use Rattle.execute51.specs.declared.told.Told.{Told}
use Rattle.execute51.specs.declared.fetch.Fetched.{Fetched}
use Rattle.execute51.specs.Effect.{effect_of}
use Rattle.execute51.specs.Fetch.{fetch_of}
use Rattle.execute51.specs.Told.{done_of, told_of}

-- of the moves, XCH alone
abbrev pub is_exchange_transfer : TransferGroup → Bool
is_exchange_transfer (Mov t s) = false
is_exchange_transfer (MovDptr n) = false
is_exchange_transfer MovcDptr = false
is_exchange_transfer MovcPc = false
is_exchange_transfer (MovxRead e) = false
is_exchange_transfer (MovxWrite e) = false
is_exchange_transfer (Push a) = false
is_exchange_transfer (Pop a) = false
is_exchange_transfer (Xch o) = true
is_exchange_transfer (Xchd n) = false

-- XCH is the one instruction that writes its operand and reads the pins of a port
abbrev pub is_exchange : Instruction → Bool
is_exchange (Arithmetic i) = false
is_exchange (Logical i) = false
is_exchange (Transfer i) = is_exchange_transfer i
is_exchange (Boolean i) = false
is_exchange (Control i) = false

-- the byte of the target before the instruction: of a port the latch, and for XCH the pins
abbrev pub target_byte : {S : Type 0} → Pins S → Chip → Instruction → Option Place → ℕ
target_byte levels c i place = cond (is_exchange i) (read_of levels c place) (held_of c place)

-- PC stored last
abbrev pub going_on : Chip → ℕ → Chip
going_on c next = with_registers c (with_pc c.registers next)

-- the registers after the effect, then the byte for the target, then PC
abbrev pub after : Chip → Option Place → Answer → Registers → Chip
after c place e r = going_on (committed_of (with_registers c r) place e.byte) e.next

-- a decoded instruction, with the address after it: places first, then reads, then changes
abbrev pub perform_steps : {S : Type 0} → Pins S → Instruction → ℕ → Chip → Memory → Result (Done × (Chip × Memory)) Fault
perform_steps levels i next c m =
    then (places_of c.registers (operands_of i)) (λ p.
    then (effect_of i next (target_byte levels c i p.target) (read_of levels c p.source) c.registers m) (λ x.
    Ok (done_of p.target x.0, (after c p.target x.0 x.1.0, x.1.1))))

-- the same under a name that proofs do not look into unless they say so
unfoldable pub perform_of : {S : Type 0} → Pins S → Instruction → ℕ → Chip → Memory → Result (Done × (Chip × Memory)) Fault
perform_of levels i next c m = perform_steps levels i next c m

-- what decoding gave, performed
abbrev pub decoded : {S : Type 0} → Option Instruction → Fetched → Pins S → Chip → Memory → Result (Told × (Chip × Memory)) Fault
decoded None f levels c m = Err NoInstruction
decoded (Some i) f levels c m = then (perform_of levels i f.next c m) (λ x. Ok (told_of f.opcode i x.0, x.1))

-- the instruction at PC
abbrev pub instruction_steps : {S : Type 0} → Pins S → Chip → Memory → Result (Told × (Chip × Memory)) Fault
instruction_steps levels c m =
    then (fetch_of m c.registers.pc) (λ f. decoded (decode_of f.opcode f.first f.second) f levels c m)

-- the same under a name that proofs do not look into unless they say so
unfoldable pub instruction_of : {S : Type 0} → Pins S → Chip → Memory → Result (Told × (Chip × Memory)) Fault
instruction_of levels c m = instruction_steps levels c m

-- the parity of A computed
abbrev pub settled_chip : Chip → Chip
settled_chip c = with_registers c (settled_of c.registers)

-- the instruction at PC, and then the parity of A
abbrev pub execute_steps : {S : Type 0} → Pins S → Chip → Memory → Result (Told × (Chip × Memory)) Fault
execute_steps levels c m = then (instruction_of levels c m) (λ x. Ok (x.0, (settled_chip x.1.0, x.1.1)))

-- the same under a name that proofs do not look into unless they say so
unfoldable pub execute_of : {S : Type 0} → Pins S → Chip → Memory → Result (Told × (Chip × Memory)) Fault
execute_of levels c m = execute_steps levels c m
