-- A mask puts a bit as the sum of weights does: computed for every byte and every bit.
use Rattle.std.proofs.Common.{◌≡◌, ℕ, ◌+◌, ◌-◌, ◌*◌, ◌/◌, ◌%◌, ◌^◌, ◌<◌, Bool, true, false, eqb, List, [], ◌∷◌, get_or, refl, eqb-true}
use lib.Bits.{bit_and, bit_or}
use Rattle.arithmetic.specs.Flags.{as_bit}
use Rattle.arithmetic.proofs.Bytes.{agree_both}

abbrev pub masks : List ℕ
masks = 1 ∷ 2 ∷ 4 ∷ 8 ∷ 16 ∷ 32 ∷ 64 ∷ 128 ∷ []

abbrev pub put : ℕ → ℕ → Bool → ℕ
put a j value = a - 2 ^ j * as_bit (eqb (a / 2 ^ j % 2) 1) + 2 ^ j * as_bit value

pub set_by_mask : (a j : ℕ) → a < 256 → j < 8 → bit_or a (get_or masks j 0) ≡ put a j true
set_by_mask a j ha hj =
    eqb-true _ _ (agree_both (λ a j. eqb (bit_or a (get_or masks j 0)) (put a j true)) (λ _ _. true) 256 8 refl a j ha hj)

pub cleared_by_mask : (a j : ℕ) → a < 256 → j < 8 → bit_and a (255 - get_or masks j 0) ≡ put a j false
cleared_by_mask a j ha hj =
    eqb-true _ _ (agree_both (λ a j. eqb (bit_and a (255 - get_or masks j 0)) (put a j false)) (λ _ _. true) 256 8 refl a j ha hj)
