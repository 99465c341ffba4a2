-- How bytes are written one part after the other.
use Rattle.std.proofs.Common.{◌≡◌, ℕ, zero, suc, ◌+◌, ◌*◌, ◌<◌, ◌≤◌, true, false, cond, ltb, List, [], ◌∷◌, ◌++◌, length, take, drop, get_or, Some, Ok, Err, sym, refl, ap, ◌∙◌, subst, suc-mul, add_comm, zero-mul, add-one, length-append, rules}
use Rattle.std.specs.List.{slice_get, flat_map}
use Rattle.std.proofs.lemmas.List.{append-nil, append_assoc, take-append-drop}
use Rattle.std.proofs.lemmas.Option.{slice_get-get_or}
use Rattle.outcome.specs.Outcome.{kept}
use Rattle.records.specs.declared.refusals.Refusal.TheVariants.{TooLittleRoom}
use Rattle.record_files.specs.File.{image_at}
use Rattle.record_files.specs.Text.{hex_byte, record_line, printed}
use Rattle.logs.specs.Log.{Entries, entries, empty, entered, Adds}
use Rattle.logs.proofs.Growth.{adds_more}

module _ {R A : Type 0} (f : R → List A) where
  -- one entry more
  joined_more : (rs : List R) (i : ℕ) → flat_map f (take (suc i) rs) ≡ flat_map f (take i rs) ++ image_at f (slice_get rs i)
  joined_more [] zero = refl
  joined_more [] (suc i) = refl
  joined_more (r ∷ rs) zero = append-nil (f r)
  joined_more (r ∷ rs) (suc i) = ap (λ xs. f r ++ xs) (joined_more rs i) ∙ sym (append_assoc (f r) (flat_map f (take i rs)) (image_at f (slice_get rs i)))

  -- one record more, which is the next
  pub adds_next : (rs : List R) (i : ℕ) (r : R) (l l' l'' : Entries A) → slice_get rs i ≡ Some r
      → Adds l l' (flat_map f (take i rs)) → Adds l' l'' (f r) → Adds l l'' (flat_map f (take (i + 1) rs))
  adds_next rs i r l l' l'' e p q =
      let t : flat_map f (take i rs) ++ f r ≡ flat_map f (take (i + 1) rs) =
      sym (ap (λ k. flat_map f (take k rs)) (add-one i) ∙ joined_more rs i ∙ ap (λ x. flat_map f (take i rs) ++ image_at f x) e) in
      subst (Adds l l'') t (adds_more l l' l'' (flat_map f (take i rs)) (f r) p q)

  -- the same where the next is told as the item of a loop
  pub adds_item : (rs : List R) (i : ℕ) (r : R) (l l' l'' : Entries A) → i < length rs → r ≡ get_or rs i r
      → Adds l l' (flat_map f (take i rs)) → Adds l' l'' (f r) → Adds l l'' (flat_map f (take (i + 1) rs))
  adds_item rs i r l l' l'' h e p q = adds_next rs i r l l' l'' (slice_get-get_or rs i r h ∙ ap Some (sym e)) p q

  -- parts of one length
  pub length_joined : (w : ℕ) → ((r : R) → length (f r) ≡ w) → (rs : List R) → length (flat_map f rs) ≡ length rs * w
  length_joined w sized [] = sym (zero-mul w)
  length_joined w sized (r ∷ rs) =
      let ih = length_joined w sized rs in
      length-append (f r) (flat_map f rs) ∙ ap (λ k. k + length (flat_map f rs)) (sized r) ∙ ap (λ k. w + k) ih ∙ sym (suc-mul (length rs) w ∙ add_comm (length rs * w) w)

-- what a memory holds after a text was written through a log of its bytes
pub written_through : {A : Type 0} (out end text : List A) (used : ℕ) → Adds (empty out) (entries end used) text → length text ≤ length out → end ≡ text ++ drop (length text) out
written_through out end text used a h =
    let e : entries end used ≡ entered (empty out) text = a h in
    sym (take-append-drop used end) ∙ ap (λ (x : Entries _). x.made ++ x.free) e

-- a line has two digits for each byte, and ends
pub length_lines : {R : Type 0} (image : R → List ℕ) (w : ℕ) → ((r : R) → length (image r) ≡ w) → (rs : List R) → length (flat_map (record_line image) rs) ≡ length rs * (w * 2 + 1)
length_lines image w sized rs =
    length_joined (record_line image) (w * 2 + 1)
    (λ r. length-append (flat_map hex_byte (image r)) (10 ∷ []) ∙ ap (λ k. k + 1) (length_joined hex_byte 2 (λ b. refl) (image r) ∙ ap (λ k. k * 2) (sized r))) rs

-- what is answered of a text that was written through a log of its bytes
pub printed_through : (out end text : List ℕ) (used n : ℕ) → Adds (empty out) (entries end used) text → length text ≤ length out → n ≡ length (take used end)
    → (Ok n, end) ≡ kept out (printed text out)
printed_through out end text used n a h m =
    let z : ltb (length out) (length text) ≡ false = search rules in
    let e : entries end used ≡ entered (empty out) text = a h in
    let k : n ≡ length text = m ∙ ap (λ (x : Entries ℕ). length x.made) e in
    ap (λ x. (Ok x, end)) k ∙ ap (λ x. (Ok (length text), x)) (written_through out end text used a h)
    ∙ sym (ap (λ b. kept out (cond b (Err TooLittleRoom) (Ok (length text, text ++ drop (length text) out)))) z)

pub too_long : (out text : List ℕ) → length out < length text → (Err TooLittleRoom, out) ≡ kept out (printed text out)
too_long out text h =
    let z : ltb (length out) (length text) ≡ true = search rules in
    sym (ap (λ b. kept out (cond b (Err TooLittleRoom) (Ok (length text, text ++ drop (length text) out)))) z)
