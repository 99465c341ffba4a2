use Rattle.std.proofs.Common.{◌≡◌, ℕ, ◌+◌, ◌-◌, ◌*◌, ◌/◌, ◌%◌, Bool, false, List, [], ◌∷◌, get_or, refl, subst, arith}
use Rattle.std.proofs.lemmas.Bool.{agree_below_at}
use Rattle.instructions.specs.Tables.{is_register_of}
use Rattle.instructions.proofs.tables.is_register.Goals as goal

-- the table that the definition makes: eight addresses to a row, from 80H on
abbrev row : ℕ → List Bool
row r =
    let first = 128 + 8 * r in
    is_register_of first ∷ is_register_of (first + 1) ∷ is_register_of (first + 2) ∷ is_register_of (first + 3)
    ∷ is_register_of (first + 4) ∷ is_register_of (first + 5) ∷ is_register_of (first + 6) ∷ is_register_of (first + 7) ∷ []

abbrev rows : List (List Bool)
rows =
    row 0 ∷ row 1 ∷ row 2 ∷ row 3 ∷ row 4 ∷ row 5 ∷ row 6 ∷ row 7 ∷ row 8 ∷ row 9 ∷ row 10 ∷ row 11 ∷ row 12 ∷ row 13 ∷ row 14 ∷ row 15 ∷ []

abbrev looked_up : ℕ → Bool
looked_up k = get_or (get_or rows (k / 8 % 16) []) (k % 8) false

pub returns-then-address-ge128 : goal.returns-then-address-ge128
returns-then-address-ge128 c =
    let k = c.args.address in
    let e : 128 + (k - 128) ≡ k = omega arith in
    subst (λ (x : ℕ). looked_up x ≡ is_register_of x) e
    (agree_below_at (λ j. looked_up (128 + j)) (λ j. is_register_of (128 + j)) 128 (k - 128) refl (omega arith))
