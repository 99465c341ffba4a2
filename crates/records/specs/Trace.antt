-- A trace record in eight bytes: kind, PC (two, high first), opcode, cycles, source, marks, accumulator.
use Rattle.std.specs.Prelude.{ℕ, ◌+◌, ◌*◌, ◌/◌, ◌%◌, Bool, true, false, cond, ◌&&◌, List, [], ◌∷◌, length, Ok, Err, Result, ◌==◌, nat_lt, slice_index}
use Rattle.outcome.specs.Outcome.{then}
use Rattle.records.specs.declared.refusals.Refusal.{Refusal}
use Rattle.records.specs.declared.refusals.Refusal.TheVariants.{FieldOutsideLayout}
use Rattle.records.specs.declared.traces.Source.{Source}
use Rattle.records.specs.declared.traces.Source.TheVariants.{External0, Timer0, External1, Timer1, Serial}
use Rattle.records.specs.declared.traces.StepKind.{StepKind}
use Rattle.records.specs.declared.traces.StepKind.TheVariants.{Instruction, VectorCall}
use Rattle.records.specs.declared.traces.Cycles.{Cycles}
use Rattle.records.specs.declared.traces.Cycles.TheVariants.{One, Two, Four}
use Rattle.records.specs.declared.traces.Marks.{Marks}
use Rattle.records.specs.declared.traces.TraceRecord.{TraceRecord}
use Rattle.records.specs.Bytes.{byte0, byte1, two_bytes}

-- the sources by number, 1 to 5
abbrev pub source_number : Source → ℕ
source_number External0 = 1
source_number Timer0 = 2
source_number External1 = 3
source_number Timer1 = 4
source_number Serial = 5

abbrev pub source_of : ℕ → Result Source Refusal
source_of n =
    cond (n == 1) (Ok External0) (cond (n == 2) (Ok Timer0) (cond (n == 3) (Ok External1)
    (cond (n == 4) (Ok Timer1) (cond (n == 5) (Ok Serial) (Err FieldOutsideLayout)))))

-- a step takes 1, 2 or 4 cycles
abbrev pub cycles_number : Cycles → ℕ
cycles_number One = 1
cycles_number Two = 2
cycles_number Four = 4

abbrev pub cycles_of : ℕ → Result Cycles Refusal
cycles_of n = cond (n == 1) (Ok One) (cond (n == 2) (Ok Two) (cond (n == 4) (Ok Four) (Err FieldOutsideLayout)))

-- a test as a bit
abbrev pub bit : Bool → ℕ
bit true = 1
bit false = 0

-- bit 0 is the low level's mark, bit 1 the high level's; there is no other
abbrev pub marks_byte : Marks → ℕ
marks_byte m = bit m.low + 2 * bit m.high

abbrev pub marks : Bool → Bool → Marks
marks low high = record { low = low; high = high }

abbrev pub marks_of : ℕ → Result Marks Refusal
marks_of b = cond (nat_lt b 4) (Ok (marks (b % 2 == 1) (b / 2 == 1))) (Err FieldOutsideLayout)

-- kind 0 is an instruction, with its opcode and source 0; kind 1 a vector call, with opcode 00H and its source
abbrev pub kind_byte : StepKind → ℕ
kind_byte (Instruction opcode) = 0
kind_byte (VectorCall source) = 1

abbrev pub opcode_byte : StepKind → ℕ
opcode_byte (Instruction opcode) = opcode
opcode_byte (VectorCall source) = 0

abbrev pub source_byte : StepKind → ℕ
source_byte (Instruction opcode) = 0
source_byte (VectorCall source) = source_number source

abbrev pub kind_of : ℕ → ℕ → ℕ → Result StepKind Refusal
kind_of kind opcode source =
    cond (kind == 0 && source == 0) (Ok (Instruction opcode))
    (cond (kind == 1 && opcode == 0) (then (source_of source) (λ s. Ok (VectorCall s))) (Err FieldOutsideLayout))

-- the three bytes together, and taken apart again
abbrev pub kind_bytes : StepKind → List ℕ
kind_bytes k = kind_byte k ∷ opcode_byte k ∷ source_byte k ∷ []

abbrev pub kind_taken : List ℕ → Result StepKind Refusal
kind_taken bs = kind_of (slice_index bs 0) (slice_index bs 1) (slice_index bs 2)

abbrev pub trace_bytes : TraceRecord → List ℕ
trace_bytes t =
    kind_byte t.kind ∷ byte1 t.pc ∷ byte0 t.pc ∷ opcode_byte t.kind
    ∷ cycles_number t.cycles ∷ source_byte t.kind ∷ marks_byte t.marks ∷ t.accumulator ∷ []

abbrev pub trace_taken : List ℕ → Result TraceRecord Refusal
trace_taken bs =
    cond (length bs == 8)
    (then (kind_of (slice_index bs 0) (slice_index bs 3) (slice_index bs 5)) (λ kind.
    then (cycles_of (slice_index bs 4)) (λ cycles.
    then (marks_of (slice_index bs 6)) (λ marks. Ok (record {
      kind = kind;
      pc = two_bytes (slice_index bs 1) (slice_index bs 2);
      cycles = cycles;
      marks = marks;
      accumulator = slice_index bs 7;
    })))))
    (Err FieldOutsideLayout)

-- trace records stand in any order
abbrev pub trace_ordered : TraceRecord → TraceRecord → Bool
trace_ordered before t = true
