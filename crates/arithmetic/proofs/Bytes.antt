-- A rule of small numbers, proved at all of them by one test that is computed.
use Rattle.std.proofs.Common.{◌≡◌, ℕ, ◌+◌, ◌*◌, ◌/◌, ◌%◌, ◌^◌, ◌<◌, Bool, true, eqb, refl, eqb-true}
use Rattle.std.proofs.lemmas.Bool.{agree_below, agree_below_at}
use lib.Bits.{bit_or}

-- a test that passes at each number below n passes at any
pub holds_at : (f : ℕ → Bool) (n : ℕ) → agree_below f (λ _. true) n ≡ true → (k : ℕ) → k < n → f k ≡ true
holds_at f n t k h = agree_below_at f (λ _. true) n k t h

-- two functions that agree at each number below n
pub agree : (f g : ℕ → ℕ) (n : ℕ) → agree_below (λ k. eqb (f k) (g k)) (λ _. true) n ≡ true → (k : ℕ) → k < n → f k ≡ g k
agree f g n t k h = eqb-true (f k) (g k) (holds_at (λ k. eqb (f k) (g k)) n t k h)

-- two tests of two numbers
pub agree_both : (f g : ℕ → ℕ → Bool) (n m : ℕ) → agree_below (λ k. agree_below (f k) (g k) m) (λ _. true) n ≡ true
    → (k l : ℕ) → k < n → l < m → f k l ≡ g k l
agree_both f g n m t k l h i = agree_below_at (f k) (g k) m l (holds_at (λ k. agree_below (f k) (g k) m) n t k h) i

-- a rotate of a byte by i places, as the library computes it and as the sum of its two parts
pub rotated_left : (a : ℕ) → a < 256 → bit_or ((a * 2 ^ 1) % 256) (a / 2 ^ 7) ≡ (2 * a) % 256 + a / 128
rotated_left = agree (λ a. bit_or ((a * 2 ^ 1) % 256) (a / 2 ^ 7)) (λ a. (2 * a) % 256 + a / 128) 256 refl

pub rotated_right : (a : ℕ) → a < 256 → bit_or (a / 2 ^ 1) ((a * 2 ^ 7) % 256) ≡ a / 2 + 128 * (a % 2)
rotated_right = agree (λ a. bit_or (a / 2 ^ 1) ((a * 2 ^ 7) % 256)) (λ a. a / 2 + 128 * (a % 2)) 256 refl

pub swapped : (a : ℕ) → a < 256 → bit_or ((a * 2 ^ 4) % 256) (a / 2 ^ 4) ≡ 16 * (a % 16) + a / 16
swapped = agree (λ a. bit_or ((a * 2 ^ 4) % 256) (a / 2 ^ 4)) (λ a. 16 * (a % 16) + a / 16) 256 refl
