-- The laws of specs/Laws.antt.
use Rattle.std.proofs.Common.{◌≡◌, ℕ, ◌+◌, ◌<◌, Bool, true, false, cond, ◌&&◌, eqb, refl, eqb-true}
use Rattle.std.proofs.lemmas.Bool.{and_parts, agree_below, agree_below_at}
use Rattle.arithmetic.specs.Flags.{flags_of}
use Rattle.arithmetic.specs.Shifts.{rotate_left_of, rotate_right_of}
use Rattle.arithmetic.specs.Bits.{bit_of, with_bit_of, with_flags_of}
use Rattle.arithmetic.specs.Laws.{BitsRotate, BitsStand, FlagsStand}
use Rattle.arithmetic.proofs.Bytes.{holds_at, agree_both}

pub bits_rotate : BitsRotate
bits_rotate a i ha hi = (
  agree_both (λ a i. bit_of (rotate_left_of a) (i + 1)) (λ a i. bit_of a i) 256 8 refl a i ha hi,
  agree_both (λ a i. bit_of (rotate_right_of a) i) (λ a i. bit_of a (i + 1)) 256 8 refl a i ha hi,
)

abbrev put_bit : Bool → ℕ → ℕ → ℕ → Bool
put_bit value i j a = bit_of (with_bit_of a i value) j

abbrev bit_after : Bool → ℕ → ℕ → ℕ → Bool
bit_after value i j a = cond (eqb i j) value (bit_of a j)

stands : (value : Bool) → agree_below (λ i. agree_below (λ j. agree_below (put_bit value i j) (bit_after value i j) 256) (λ _. true) 8) (λ _. true) 8 ≡ true
    → (a i j : ℕ) → a < 256 → i < 8 → j < 8 → put_bit value i j a ≡ bit_after value i j a
stands value t a i j ha hi hj =
    agree_below_at (put_bit value i j) (bit_after value i j) 256 a
    (agree_both (λ i j. agree_below (put_bit value i j) (bit_after value i j) 256) (λ _ _. true) 8 8 t i j hi hj) ha

pub bits_stand : BitsStand
bits_stand a i j true ha hi hj = stands true refl a i j ha hi hj
bits_stand a i j false ha hi hj = stands false refl a i j ha hi hj

-- the three equations, for one choice of the flags, by one test
abbrev flags_test : (carry auxiliary overflow : Bool) (f g h : ℕ → ℕ) → ℕ → Bool
flags_test carry auxiliary overflow f g h p =
    let flags = flags_of carry auxiliary overflow in
    eqb (with_flags_of p 0x80 flags) (f p) && (eqb (with_flags_of p 0x84 flags) (g p) && eqb (with_flags_of p 0xc4 flags) (h p))

flags_by : (carry auxiliary overflow : Bool) (f g h : ℕ → ℕ) → agree_below (flags_test carry auxiliary overflow f g h) (λ _. true) 256 ≡ true
    → (psw : ℕ) → psw < 256
    → (with_flags_of psw 0x80 (flags_of carry auxiliary overflow) ≡ f psw)
    × (with_flags_of psw 0x84 (flags_of carry auxiliary overflow) ≡ g psw)
    × (with_flags_of psw 0xc4 (flags_of carry auxiliary overflow) ≡ h psw)
flags_by carry auxiliary overflow f g h t psw hp =
    let u = and_parts _ _ (holds_at (flags_test carry auxiliary overflow f g h) 256 t psw hp) in
    let v = and_parts _ _ u.1 in
    (eqb-true _ _ u.0, eqb-true _ _ v.0, eqb-true _ _ v.1)

abbrev with_two : Bool → Bool → ℕ → ℕ
with_two carry overflow p = with_bit_of (with_bit_of p 7 carry) 2 overflow

abbrev with_three : Bool → Bool → Bool → ℕ → ℕ
with_three carry auxiliary overflow p = with_bit_of (with_bit_of (with_bit_of p 7 carry) 6 auxiliary) 2 overflow

pub flags_stand : FlagsStand
flags_stand psw true true true = flags_by true true true (λ p. with_bit_of p 7 true) (with_two true true) (with_three true true true) refl psw
flags_stand psw true true false = flags_by true true false (λ p. with_bit_of p 7 true) (with_two true false) (with_three true true false) refl psw
flags_stand psw true false true = flags_by true false true (λ p. with_bit_of p 7 true) (with_two true true) (with_three true false true) refl psw
flags_stand psw true false false = flags_by true false false (λ p. with_bit_of p 7 true) (with_two true false) (with_three true false false) refl psw
flags_stand psw false true true = flags_by false true true (λ p. with_bit_of p 7 false) (with_two false true) (with_three false true true) refl psw
flags_stand psw false true false = flags_by false true false (λ p. with_bit_of p 7 false) (with_two false false) (with_three false true false) refl psw
flags_stand psw false false true = flags_by false false true (λ p. with_bit_of p 7 false) (with_two false true) (with_three false false true) refl psw
flags_stand psw false false false = flags_by false false false (λ p. with_bit_of p 7 false) (with_two false false) (with_three false false false) refl psw
