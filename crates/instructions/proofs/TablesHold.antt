-- The rules of specs/Laws.antt: each is a test that is computed at all 256 opcodes, whatever the operand bytes are.
use Rattle.std.proofs.Common.{◌≡◌, ℕ, ◌/◌, ◌≤◌, Bool, true, false, ◌&&◌, ◌||◌, eqb, leb, is_some, Some, None, Option, refl, ap, ◌∙◌, inl, inr, arith}
use Rattle.std.proofs.lemmas.Bool.Decides.{nat_tests}
use Rattle.std.proofs.lemmas.Bool.{cases_lt}
use Rattle.arithmetic.proofs.Bytes.{holds_at, agree}
use Rattle.instructions.specs.declared.Instruction.{Instruction}
use Rattle.instructions.specs.Decode.{decode_of, decode_steps}
use Rattle.instructions.specs.Operands.{polls_of}
use Rattle.instructions.specs.Sizes.{size_of}
use Rattle.instructions.specs.Tables.{length_of, cycles_of}
use Rattle.instructions.specs.Laws.{Lengths, Cycles, Reserved, Refused, Sizes, Unpolled}

pub lengths_hold : Lengths
lengths_hold op h =
    let t = holds_at (λ n. leb 1 (length_of n) && leb (length_of n) 3) 256 refl op h in grind (arith, nat_tests)

pub cycles_hold : Cycles
cycles_hold op h =
    let t = holds_at (λ n. (leb 1 (cycles_of n) && leb (cycles_of n) 2) || (eqb (cycles_of n) 4 && (eqb n 132 || eqb n 164))) 256 refl op h in
    grind (arith, nat_tests)

pub reserved_holds : Reserved
unfolding decode_of
reserved_holds op first second h none =
    let t = holds_at (λ n. is_some (decode_steps n first second) || eqb n 165) 256 refl op h in
    let u = ap is_some none in
    grind (arith, nat_tests)

past_end : (opcode first second : ℕ) → 256 ≤ opcode → decode_steps opcode first second ≡ None
past_end op first second h =
    let q : 16 ≤ op / 16 = omega arith in
    grind (arith, nat_tests)

pub refused_hold : Refused
unfolding decode_of
refused_hold = (λ first second. refl, λ op first second h. past_end op first second h)

abbrev size_any : Option Instruction → ℕ
size_any (Some i) = size_of i
size_any None = 1

pub sizes_hold : Sizes
unfolding decode_of
sizes_hold op first second i e =
    elim (cases_lt op 256) [
      | inl h ↦ agree length_of (λ n. size_any (decode_steps n first second)) 256 refl op h ∙ ap size_any e
      | inr h ↦ let n : decode_steps op first second ≡ None = past_end op first second h in
          let z : ◌≡◌ {A = ℕ} 0 1 = cc in absurd (omega arith)
    ]

abbrev polls_any : Option Instruction → Bool
polls_any (Some i) = polls_of i
polls_any None = true

pub unpolled_hold : Unpolled
unfolding decode_of
unpolled_hold op first second i e silent =
    elim (cases_lt op 256) [
      | inl h ↦ let t = holds_at (λ n. leb (cycles_of n) 2 || polls_any (decode_steps n first second)) 256 refl op h in
          let u : polls_any (decode_steps op first second) ≡ false = ap polls_any e ∙ silent in
          grind (arith, nat_tests)
      | inr h ↦ let n : decode_steps op first second ≡ None = past_end op first second h in
          let z : ◌≡◌ {A = ℕ} 0 1 = cc in absurd (omega arith)
    ]
