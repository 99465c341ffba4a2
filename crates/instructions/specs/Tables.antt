-- Intel's tables.
use Rattle.std.specs.Prelude.{ℕ, ◌/◌, ◌%◌, Bool, false, ◌||◌, List, [], ◌∷◌, ◌==◌, slice_index, slice_index_or}
use Rattle.records.specs.declared.traces.Source.{Source}
use Rattle.records.specs.declared.traces.Source.TheVariants.{External0, Timer0, External1, Timer1, Serial}

-- a row of the opcode map, by the low digit of the opcode: 6 and 7 are alike, and 8 to F
abbrev pub row : (e0 e1 e2 e3 e4 e5 e6 e8 : ℕ) → List ℕ
row e0 e1 e2 e3 e4 e5 e6 e8 =
    e0 ∷ e1 ∷ e2 ∷ e3 ∷ e4 ∷ e5 ∷ e6 ∷ e6 ∷ e8 ∷ e8 ∷ e8 ∷ e8 ∷ e8 ∷ e8 ∷ e8 ∷ e8 ∷ []

-- what a table has for an opcode: the row by its high digit, then the place by its low digit
abbrev pub entry : List (List ℕ) → ℕ → ℕ
entry table opcode = slice_index (slice_index_or table (opcode / 16) []) (opcode % 16)

-- the bytes of each instruction
abbrev pub lengths : List (List ℕ)
lengths =
    row 1 2 3 1 1 2 1 1 ∷
    row 3 2 3 1 1 2 1 1 ∷
    row 3 2 1 1 2 2 1 1 ∷
    row 3 2 1 1 2 2 1 1 ∷
    row 2 2 2 3 2 2 1 1 ∷
    row 2 2 2 3 2 2 1 1 ∷
    row 2 2 2 3 2 2 1 1 ∷
    row 2 2 2 1 2 3 2 2 ∷
    row 2 2 2 1 1 3 2 2 ∷
    row 3 2 2 1 2 2 1 1 ∷
    row 2 2 2 1 1 1 2 2 ∷
    row 2 2 2 1 3 3 3 3 ∷
    row 2 2 2 1 1 2 1 1 ∷
    row 2 2 2 1 1 3 1 2 ∷
    row 1 2 1 1 1 2 1 1 ∷
    row 1 2 1 1 1 2 1 1 ∷
    []

-- the machine cycles of each instruction
abbrev pub cycles : List (List ℕ)
cycles =
    row 1 2 2 1 1 1 1 1 ∷
    row 2 2 2 1 1 1 1 1 ∷
    row 2 2 2 1 1 1 1 1 ∷
    row 2 2 2 1 1 1 1 1 ∷
    row 2 2 1 2 1 1 1 1 ∷
    row 2 2 1 2 1 1 1 1 ∷
    row 2 2 1 2 1 1 1 1 ∷
    row 2 2 2 2 1 2 1 1 ∷
    row 2 2 2 2 4 2 2 2 ∷
    row 2 2 2 2 1 1 1 1 ∷
    row 2 2 1 2 4 1 2 2 ∷
    row 2 2 1 1 2 2 2 2 ∷
    row 2 2 1 1 1 1 1 1 ∷
    row 2 2 1 1 1 2 1 2 ∷
    row 2 2 2 2 1 1 1 1 ∷
    row 2 2 2 2 1 1 1 1 ∷
    []

abbrev pub length_of : ℕ → ℕ
length_of opcode = entry lengths opcode

abbrev pub cycles_of : ℕ → ℕ
cycles_of opcode = entry cycles opcode

-- P0, SP, DPL, DPH, TCON, TMOD, TL0, TL1, TH0, TH1, P1, SCON, SBUF, P2, IE, P3, IP, PSW, ACC, B
abbrev pub registers : List ℕ
registers =
    0x80 ∷ 0x81 ∷ 0x82 ∷ 0x83 ∷ 0x88 ∷ 0x89 ∷ 0x8a ∷ 0x8b ∷ 0x8c ∷ 0x8d ∷
    0x90 ∷ 0x98 ∷ 0x99 ∷ 0xa0 ∷ 0xa8 ∷ 0xb0 ∷ 0xb8 ∷ 0xd0 ∷ 0xe0 ∷ 0xf0 ∷ []

-- a number is in a list
abbrev pub has : List ℕ → ℕ → Bool
has [] a = false
has (x ∷ xs) a = x == a || has xs a

abbrev pub is_register_of : ℕ → Bool
is_register_of address = has registers address

-- where the service of each interrupt source begins
abbrev pub vector_of : Source → ℕ
vector_of External0 = 0x0003
vector_of Timer0 = 0x000b
vector_of External1 = 0x0013
vector_of Timer1 = 0x001b
vector_of Serial = 0x0023
