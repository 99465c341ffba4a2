-- How the records of a file are taken piece by piece.
use Rattle.std.proofs.Common.{◌≡◌, ℕ, zero, suc, ◌+◌, ◌/◌, ◌<◌, ◌≤◌, Bool, true, false, cond, ◌&&◌, ltb, List, [], ◌∷◌, ◌++◌, length, drop, Some, None, Ok, Err, Option, Result, sym, refl, ap, ◌∙◌, subst, add-one, arith, length-append, rules}
use Rattle.std.proofs.Math.Bool.{and_assoc}
use native.Mathlib.Nat.{add-div_left, div-eq_of_lt}
use Rattle.std.specs.List.{flat_map}
use Rattle.std.proofs.lemmas.List.{take_at, drop_at}
use Rattle.outcome.specs.Outcome.{kept, then}
use Rattle.records.specs.declared.refusals.Refusal.{Refusal}
use Rattle.records.specs.declared.refusals.Refusal.TheVariants.{FileLength, CycleBelowTheOneBefore, TooLittleRoom}
use Rattle.record_files.specs.File.{pieces, all_taken, accepted, ordered_records, file_sized, file_records, take_up_of}
use Rattle.records.specs.Order.{follows, in_order}
use Rattle.logs.specs.Log.{Entries, entered, extend_of, Adds}

-- all pieces of a file
abbrev pub all_pieces : ℕ → List ℕ → List (List ℕ)
all_pieces width bs = pieces width (length bs / width) bs

pub one_piece : (w : ℕ) (p rest bs : List ℕ) → 0 < w → length p ≡ w → bs ≡ p ++ rest → all_pieces w bs ≡ p ∷ all_pieces w rest
one_piece w p rest bs h e b =
    let n : length (p ++ rest) / w ≡ suc (length rest / w) = ap (λ k. k / w) (length-append p rest ∙ ap (λ k. k + length rest) e) ∙ add-div_left (length rest) h ∙ add-one (length rest / w) in
    ap (all_pieces w) b ∙ ap (λ k. pieces w k (p ++ rest)) n ∙ simp (take_at p rest w e, drop_at p rest w e)

pub no_piece : (w : ℕ) (bs : List ℕ) → length bs < w → all_pieces w bs ≡ []
no_piece w bs h = ap (λ k. pieces w k bs) (div-eq_of_lt h)

length_pieces : (w n : ℕ) (bs : List ℕ) → length (pieces w n bs) ≡ n
length_pieces w zero bs = refl
length_pieces w (suc n) bs = ap suc (length_pieces w n (drop w bs))

-- the verdict on records that stand after one, where those before were in order or not
abbrev pub judged : {R : Type 0} → (R → R → Bool) → Bool → Option R → Result (List R) Refusal → Result (Unit {0}) Refusal
judged ordered so_far before (Ok rs) = cond (so_far && in_order ordered before rs) (Ok tt) (Err CycleBelowTheOneBefore)
judged ordered so_far before (Err e) = Err e

module _ {R : Type 0} (ordered : R → R → Bool) where
  -- one record is taken, and the rest decide
  pub judged_more : (so_far : Bool) (before : Option R) (r : R) (x : Result (List R) Refusal)
      → judged ordered so_far before (then x (λ rs. Ok (r ∷ rs))) ≡ judged ordered (so_far && follows ordered before r) (Some r) x
  judged_more so_far before r (Ok rs) = ap (λ b. cond b (Ok tt) (Err CycleBelowTheOneBefore)) (sym (and_assoc so_far (follows ordered before r) (in_order ordered (Some r) rs)))
  judged_more so_far before r (Err e) = refl

  judged_none : (so_far : Bool) (before : Option R) → judged ordered so_far before (Ok []) ≡ cond so_far (Ok tt) (Err CycleBelowTheOneBefore)
  judged_none true before = refl
  judged_none false before = refl

  settled : (b : Bool) (rs : List R) → then {B = Unit {0}} (cond b (Ok rs) (Err CycleBelowTheOneBefore)) (λ _. Ok tt) ≡ cond b (Ok tt) (Err CycleBelowTheOneBefore)
  settled true rs = refl
  settled false rs = refl

  pub judged_all : (x : Result (List R) Refusal) → then (then x (ordered_records ordered)) (λ _. Ok tt) ≡ judged ordered true None x
  judged_all (Ok rs) = settled (in_order ordered None rs) rs
  judged_all (Err e) = refl

  kept_order : (b : Bool) (rs ss : List R) → cond b (Ok rs) (Err CycleBelowTheOneBefore) ≡ Ok ss → rs ≡ ss
  kept_order true rs ss e = cc
  kept_order false rs ss e = let z : ◌≡◌ {A = ℕ} 0 1 = cc in absurd (omega arith)

  -- records in order are the records that were taken
  pub taken_from_ordered : (x : Result (List R) Refusal) (rs : List R) → then x (ordered_records ordered) ≡ Ok rs → x ≡ Ok rs
  taken_from_ordered (Ok ss) rs e = ap Ok (kept_order (in_order ordered None ss) ss rs e)
  taken_from_ordered (Err d) rs e = let z : ◌≡◌ {A = ℕ} 0 1 = cc in absurd (omega arith)

-- an accepted outcome has a value
pub has_value : {A : Type 0} (x : Result A Refusal) → then {B = Unit {0}} x (λ _. Ok tt) ≡ Ok tt → (a : A) × (x ≡ Ok a)
has_value (Ok a) e = (a, refl)
has_value (Err d) e = let z : ◌≡◌ {A = ℕ} 0 1 = cc in absurd (omega arith)

module _ {R : Type 0} (taken : List ℕ → Result R Refusal) where
  one_taken : (x : Result R Refusal) (y : Result (List R) Refusal) (rs us : List R) (n : ℕ)
      → ((ss : List R) → y ≡ Ok ss → (length ss ≡ n) × (us ≡ ss))
      → then x (λ r. then y (λ ss. Ok (r ∷ ss))) ≡ Ok rs → (length rs ≡ suc n) × (accepted x ++ us ≡ rs)
  one_taken (Ok r) (Ok ss) rs us n ih e =
      let s : r ∷ ss ≡ rs = cc in
      let q = ih ss refl in
      (sym (ap length s) ∙ ap suc q.0, ap (λ xs. r ∷ xs) q.1 ∙ s)
  one_taken (Ok r) (Err d) rs us n ih e = let z : ◌≡◌ {A = ℕ} 0 1 = cc in absurd (omega arith)
  one_taken (Err d) y rs us n ih e = let z : ◌≡◌ {A = ℕ} 0 1 = cc in absurd (omega arith)

  -- where all pieces are records, there is one record a piece, and each is accepted
  pub each_taken : (ps : List (List ℕ)) (rs : List R) → all_taken taken ps ≡ Ok rs → (length rs ≡ length ps) × (flat_map (λ p. accepted (taken p)) ps ≡ rs)
  each_taken [] rs e = let s : [] ≡ rs = cc in (sym (ap length s), s)
  each_taken (p ∷ ps) rs e = one_taken (taken p) (all_taken taken ps) rs _ (length ps) (λ ss d. each_taken ps ss d) e

  -- a file's records are as many as its pieces
  pub count_taken : (w : ℕ) (bs : List ℕ) (rs : List R) → all_taken taken (all_pieces w bs) ≡ Ok rs → length rs ≡ length bs / w
  count_taken w bs rs e = (each_taken (all_pieces w bs) rs e).0 ∙ length_pieces w (length bs / w) bs

module _ {R : Type 0} (ordered : R → R → Bool) (taken : List ℕ → Result R Refusal) (w : ℕ) (wide : 0 < w) where
  -- a piece that is a record
  pub judged_piece : (so_far more : Bool) (before : Option R) (r : R) (p rest bs : List ℕ) → length p ≡ w → bs ≡ p ++ rest
      → Ok r ≡ taken p → more ≡ (so_far && follows ordered before r)
      → judged ordered so_far before (all_taken taken (all_pieces w bs)) ≡ judged ordered more (Some r) (all_taken taken (all_pieces w rest))
  judged_piece so_far more before r p rest bs n b t m =
      ap (λ ps. judged ordered so_far before (all_taken taken ps)) (one_piece w p rest bs wide n b)
      ∙ ap (λ x. judged ordered so_far before (then x (λ r. then (all_taken taken (all_pieces w rest)) (λ rs. Ok (r ∷ rs))))) (sym t)
      ∙ judged_more ordered so_far before r (all_taken taken (all_pieces w rest))
      ∙ ap (λ b. judged ordered b (Some r) (all_taken taken (all_pieces w rest))) (sym m)

  -- a piece that is none
  pub refused_piece : (so_far : Bool) (before : Option R) (e : Refusal) (p rest bs : List ℕ) → length p ≡ w → bs ≡ p ++ rest → Err e ≡ taken p
      → judged ordered so_far before (all_taken taken (all_pieces w bs)) ≡ Err e
  refused_piece so_far before e p rest bs n b t =
      ap (λ ps. judged ordered so_far before (all_taken taken ps)) (one_piece w p rest bs wide n b)
      ∙ ap (λ x. judged ordered so_far before (then x (λ r. then (all_taken taken (all_pieces w rest)) (λ rs. Ok (r ∷ rs))))) (sym t)

  -- no piece is left
  judged_end : (so_far : Bool) (before : Option R) (bs : List ℕ) → length bs < w
      → judged ordered so_far before (all_taken taken (all_pieces w bs)) ≡ cond so_far (Ok tt) (Err CycleBelowTheOneBefore)
  judged_end so_far before bs h = ap (λ ps. judged ordered so_far before (all_taken taken ps)) (no_piece w bs h) ∙ judged_none ordered so_far before

  -- so the verdict on the whole file
  pub judged_whole : (so_far : Bool) (before : Option R) (file bs : List ℕ) → length bs < w
      → judged ordered true None (all_taken taken (all_pieces w file)) ≡ judged ordered so_far before (all_taken taken (all_pieces w bs))
      → ◌≡◌ {A = Result (Unit {0}) Refusal} (cond so_far (Ok tt) (Err CycleBelowTheOneBefore))
      (then (then (all_taken taken (all_pieces w file)) (ordered_records ordered)) (λ _. Ok tt))
  judged_whole so_far before file bs h e = sym (judged_all ordered (all_taken taken (all_pieces w file)) ∙ e ∙ judged_end so_far before bs h)

-- A file of records that are in order is taken up where the log has room for them.
module _ {R : Type 0} (ordered : R → R → Bool) (taken : List ℕ → Result R Refusal) (w : ℕ) (bs : List ℕ) (l : Entries R)
    (sized : file_sized w bs ≡ true)
    (checked : Ok tt ≡ then {B = Unit {0}} (then (all_taken taken (all_pieces w bs)) (ordered_records ordered)) (λ _. Ok tt)) where
  the_records : (rs : List R) × (then (all_taken taken (all_pieces w bs)) (ordered_records ordered) ≡ Ok rs)
  the_records = has_value _ (sym checked)

  extends : kept l (take_up_of w taken ordered bs l) ≡ kept l (extend_of l the_records.0)
  extends =
      ap (λ b. kept l (then (cond b (then (all_taken taken (all_pieces w bs)) (ordered_records ordered)) (Err FileLength)) (extend_of l))) sized
      ∙ ap (λ y. kept l (then y (extend_of l))) the_records.1

  all_records : all_taken taken (all_pieces w bs) ≡ Ok the_records.0
  all_records = taken_from_ordered ordered (all_taken taken (all_pieces w bs)) the_records.0 the_records.1

  pub no_room : length l.free < length bs / w → (Err TooLittleRoom, l) ≡ kept l (take_up_of w taken ordered bs l)
  no_room h =
      let n : length the_records.0 ≡ length bs / w = count_taken taken w bs the_records.0 all_records in
      let z : ltb (length l.free) (length the_records.0) ≡ true = search rules in
      sym (extends ∙ ap (λ b. kept l (cond b (Err TooLittleRoom) (Ok (tt, entered l the_records.0)))) z)

  pub taken_up : (l' : Entries R) → length bs / w ≤ length l.free → Adds l l' (flat_map (λ p. accepted (taken p)) (all_pieces w bs))
      → (Ok tt, l') ≡ kept l (take_up_of w taken ordered bs l)
  taken_up l' h a =
      let n : length the_records.0 ≡ length bs / w = count_taken taken w bs the_records.0 all_records in
      let z : ltb (length l.free) (length the_records.0) ≡ false = search rules in
      let e : flat_map (λ p. accepted (taken p)) (all_pieces w bs) ≡ the_records.0 = (each_taken taken (all_pieces w bs) the_records.0 all_records).1 in
      let b : l' ≡ entered l the_records.0 = subst (Adds l l') e a (omega arith) in
      ap (λ x. (Ok tt, x)) b
      ∙ sym (extends ∙ ap (λ b. kept l (cond b (Err TooLittleRoom) (Ok (tt, entered l the_records.0)))) z)

not_both : {d : Refusal} → ◌≡◌ {A = Result (Unit {0}) Refusal} (Ok tt) (Err d) → ⊥
not_both {d} e = let z : ◌≡◌ {A = ℕ} 0 1 = cc in omega arith

-- What a log tells of the file that was taken up into it.
module _ {R : Type 0} (l l' : Entries R) where
  if_room : Bool → List R → Result (Unit {0} × Entries R) Refusal
  if_room b rs = cond b (Err TooLittleRoom) (Ok (tt, entered l rs))

  room_for : (b : Bool) (rs : List R) → (Ok tt, l') ≡ kept l (if_room b rs) → l' ≡ entered l rs
  unfolding if_room
  room_for true rs e = absurd (not_both (ap (λ x. x.0) e))
  room_for false rs e = ap (λ x. x.1) e

  -- a file that was taken up into an empty log
  pub up_taken : (x : Result (List R) Refusal) → l.made ≡ [] → (Ok tt, l') ≡ kept l (then x (extend_of l)) → x ≡ Ok l'.made
  unfolding if_room
  up_taken (Ok rs) none e = ap Ok (sym (ap (λ (x : Entries R). x.made) (room_for (ltb (length l.free) (length rs)) rs e) ∙ ap (λ xs. xs ++ rs) none))
  up_taken (Err d) none e = absurd (not_both (ap (λ x. x.0) e))

  -- a file that was refused, where the log had room
  pub up_refused : (x : Result (List R) Refusal) (d : Refusal) → ((rs : List R) → x ≡ Ok rs → length rs ≤ length l.free)
      → (Err d, l') ≡ kept l (then x (extend_of l)) → (x ≡ Err d) × (l' ≡ l)
  unfolding if_room
  up_refused (Ok rs) d room e =
      let h : length rs ≤ length l.free = room rs refl in
      let n : ltb (length l.free) (length rs) ≡ false = search rules in
      let f : (Err d, l') ≡ kept l (if_room false rs) = e ∙ ap (λ b. kept l (if_room b rs)) n in
      absurd (not_both (sym (ap (λ x. x.0) f)))
  up_refused (Err c) d room e =
      let f : ◌≡◌ {A = Result (Unit {0}) Refusal} (Err d) (Err c) = ap (λ x. x.0) e in
      let q : c ≡ d = cc in
      (ap Err q, ap (λ x. x.1) e)

module _ {R : Type 0} (ordered : R → R → Bool) (taken : List ℕ → Result R Refusal) (w : ℕ) (bs : List ℕ) (rs : List R) where
  sized_records : (b : Bool) (x : Result (List R) Refusal) → cond b x (Err FileLength) ≡ Ok rs → x ≡ Ok rs
  sized_records true x e = e
  sized_records false x e = let z : ◌≡◌ {A = ℕ} 0 1 = cc in absurd (omega arith)

  -- a file has as many records as their width goes into its length
  pub count_records : file_records w taken ordered bs ≡ Ok rs → length rs ≡ length bs / w
  count_records e =
      count_taken taken w bs rs (taken_from_ordered ordered (all_taken taken (all_pieces w bs)) rs (sized_records (file_sized w bs) (then (all_taken taken (all_pieces w bs)) (ordered_records ordered)) e))
