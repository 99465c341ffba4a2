-- How a log grows.
use Rattle.std.proofs.Common.{◌≡◌, ◌≤◌, false, eqb, ltb, List, [], ◌∷◌, ◌++◌, length, Result, sym, ap, ◌∙◌, arith, length-append, length-drop, rules}
use Rattle.std.proofs.lemmas.List.{append-nil, append_assoc, drop-drop}
use Rattle.outcome.specs.Outcome.{kept}
use Rattle.records.specs.declared.refusals.Refusal.{Refusal}
use Rattle.logs.specs.Log.{Entries, entered, append_of, extend_of, Adds}

-- nothing more
pub adds_none : {R : Type 0} (l : Entries R) → Adds l l []
adds_none l h = sym (ap (λ rs. record { made = rs; free = l.free }) (append-nil l.made))

-- some records, and then some more
pub adds_more : {R : Type 0} (l l' l'' : Entries R) (rs ss : List R) → Adds l l' rs → Adds l' l'' ss → Adds l l'' (rs ++ ss)
adds_more l l' l'' rs ss p q h =
    let n : length rs ≤ length l.free = omega (arith, length-append rs ss) in
    let e : l' ≡ entered l rs = p n in
    let m : length ss ≤ length l'.free = rw e (simp length-drop (omega (arith, length-append rs ss))) in
    let f : l'' ≡ entered l' ss = q m in
    f ∙ ap (λ x. entered x ss) e ∙ simp (append_assoc, drop-drop, length-append)

-- an appended record
pub adds_one : {R : Type 0} (l l' : Entries R) (r : R) (a : Result (Unit {0}) Refusal) → (a, l') ≡ kept l (append_of l r) → Adds l l' (r ∷ [])
adds_one l l' r a e h =
    let z : eqb (length l.free) 0 ≡ false = search rules in
    ap (λ x. x.1) (simp z at e)

-- appended records
pub adds_all : {R : Type 0} (l l' : Entries R) (rs : List R) (a : Result (Unit {0}) Refusal) → (a, l') ≡ kept l (extend_of l rs) → Adds l l' rs
adds_all l l' rs a e h =
    let z : ltb (length l.free) (length rs) ≡ false = search rules in
    ap (λ x. x.1) (simp z at e)
