-- What the answer of a call that can be refused says of its definition.
use Rattle.std.proofs.Common.{◌≡◌, ℕ, Ok, Err, Result, sym, ap, arith}
use Rattle.outcome.specs.Outcome.{kept}

ok_same : {A E : Type 0} (a b : A) → ◌≡◌ {A = Result A E} (Ok a) (Ok b) → a ≡ b
ok_same a b e = cc

ok_err : {A E : Type 0} (a : A) (e : E) → ◌≡◌ {A = Result A E} (Ok a) (Err e) → ⊥
ok_err a e f = let z : ◌≡◌ {A = ℕ} 0 1 = cc in omega arith

pub kept_ok : {S R E : Type 0} (s t : S) (x : R) (r : Result (R × S) E) → (Ok x, t) ≡ kept s r → r ≡ Ok (x, t)
kept_ok s t x (Ok y) e =
    let a : x ≡ y.0 = ok_same x y.0 (ap (λ p. p.0) e) in
    let b : t ≡ y.1 = ap (λ p. p.1) e in
    let z : (x, t) ≡ (y.0, y.1) = cc in
    ap Ok (sym z)
kept_ok s t x (Err d) e = absurd (ok_err x d (ap (λ p. p.0) e))

-- a refusal leaves the state as it was
err_same : {A E : Type 0} (a b : E) → ◌≡◌ {A = Result A E} (Err a) (Err b) → a ≡ b
err_same a b e = cc

pub kept_err : {S R E : Type 0} (s t : S) (x : E) (r : Result (R × S) E) → (Err x, t) ≡ kept s r → (r ≡ Err x) × (t ≡ s)
kept_err s t x (Ok y) e = absurd (ok_err y.0 x (sym (ap (λ p. p.0) e)))
kept_err s t x (Err d) e = (ap Err (sym (err_same x d (ap (λ p. p.0) e))), ap (λ p. p.1) e)
