-- Bytes and the numbers that they make.
use Rattle.std.proofs.Common.{◌≡◌, ℕ, zero, suc, List, [], ◌∷◌, length, get_or, refl, ap, arith}

-- the first n values of a function
abbrev pub elements : (ℕ → ℕ) → ℕ → List ℕ
elements f zero = []
elements f (suc n) = f 0 ∷ elements (λ i. f (suc i)) n

-- a list of n numbers is its elements in order
pub spell : (n : ℕ) (bs : List ℕ) → length bs ≡ n → bs ≡ elements (λ i. get_or bs i 0) n
spell zero [] e = refl
spell zero (b ∷ bs) e = let z : ◌≡◌ {A = ℕ} 0 1 = omega arith in absurd (omega arith)
spell (suc n) [] e = let z : ◌≡◌ {A = ℕ} 0 1 = omega arith in absurd (omega arith)
spell (suc n) (b ∷ bs) e = ap (λ xs. b ∷ xs) (spell n bs (omega arith))
