-- The rules of the tables and of decoding.
use Rattle.std.specs.Prelude.{◌≡◌, ℕ, ◌+◌, ◌*◌, ◌<◌, ◌≤◌, Bool, true, false, ◌&&◌, ◌⊎◌, List, [], ◌∷◌, length, Some, None, nat_lt}
use Rattle.instructions.specs.declared.Instruction.{Instruction}
use Rattle.records.specs.declared.traces.Source.{Source as Interrupt}
use Rattle.records.specs.Trace.{source_number}
use Rattle.instructions.specs.Decode.{decode_of}
use Rattle.instructions.specs.Operands.{polls_of}
use Rattle.instructions.specs.Sizes.{size_of}
use Rattle.instructions.specs.Tables.{length_of, cycles_of, registers, vector_of}

-- every instruction has 1 to 3 bytes
abbrev pub Lengths : Type 0
Lengths = (opcode : ℕ) → opcode < 256 → (1 ≤ length_of opcode) × (length_of opcode ≤ 3)

-- every instruction takes 1 or 2 cycles, but for DIV and MUL, which take 4
abbrev pub Cycles : Type 0
Cycles = (opcode : ℕ) → opcode < 256
    → ((1 ≤ cycles_of opcode) × (cycles_of opcode ≤ 2)) ⊎ ((cycles_of opcode ≡ 4) × ((opcode ≡ 0x84) ⊎ (opcode ≡ 0xa4)))

-- each number is above the one before, from a first one on
abbrev pub rising : ℕ → List ℕ → Bool
rising from [] = true
rising from (x ∷ xs) = nat_lt from x && rising x xs

-- there are twenty registers, all above 7FH, no two at one address
abbrev pub Registers : Type 0
Registers = (length registers ≡ 20) × (rising 0x7f registers ≡ true)

-- a vector is 8 above the one before, from 0003H on
abbrev pub Vectors : Type 0
Vectors = (i : Interrupt) → vector_of i + 5 ≡ 8 * source_number i

-- only A5H is no instruction
abbrev pub Reserved : Type 0
Reserved = (opcode first second : ℕ) → opcode < 256 → decode_of opcode first second ≡ None → opcode ≡ 0xa5

-- A5H is no instruction, and neither is anything from 256 on
abbrev pub Refused : Type 0
Refused = ((first second : ℕ) → decode_of 0xa5 first second ≡ None)
    × ((opcode first second : ℕ) → 256 ≤ opcode → decode_of opcode first second ≡ None)

-- an instruction takes as many bytes as the table says
abbrev pub Sizes : Type 0
Sizes = (opcode first second : ℕ) (i : Instruction) → decode_of opcode first second ≡ Some i → length_of opcode ≡ size_of i

-- an instruction that no poll follows takes at most 2 cycles
abbrev pub Unpolled : Type 0
Unpolled = (opcode first second : ℕ) (i : Instruction)
    → decode_of opcode first second ≡ Some i → polls_of i ≡ false → cycles_of opcode ≤ 2
