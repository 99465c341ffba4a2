-- Records in order fall due one after the other.
use Rattle.std.proofs.Common.{Ordering, Less, Equal, Greater, ◌≡◌, ℕ, zero, suc, ◌+◌, ◌<◌, ◌≤◌, min, Bool, true, false, cond, ◌&&◌, eqb, leb, List, [], ◌∷◌, ◌++◌, length, get_or, set, Some, sym, refl, ap, ◌∙◌, subst, append_assoc, add-one, arith}
use Rattle.std.specs.List.{IsAllAdjacentAnswer}
use Rattle.std.specs.Ordering.{MatchOrdering, is_le, is_some_and, nat_cmp}
use Rattle.std.specs.Cmp.{ranks}
use Rattle.std.proofs.lemmas.List.{append-nil}
use Rattle.std.proofs.lemmas.Bool.{leb-true, leb-false, le-leb, lt-leb, and_parts, and_from, and_left, and_right, cond-true, cond-false}
use Rattle.records.specs.declared.pins.PinRecord.{PinRecord}
use Rattle.records.specs.declared.ports.Port.{Port}
use Rattle.records.specs.declared.ports.Port.TheVariants.{P0, P1, P2, P3}
use Rattle.records.specs.Order.{in_order}
use Rattle.records.specs.Pin.{pin_ordered}
use Rattle.records.specs.Port.{port_number}
use Rattle.boards.specs.Script.{in_force, last_level, last_levels, levels_at, cycles_in_order, first_is_due, due_before, due_after, put_levels, played, script_next, Plays}

-- the records after those of a cycle before are in order
abbrev rising : ℕ → List PinRecord → Bool
rising before [] = true
rising before (r ∷ rs) = leb before r.cycle && rising r.cycle rs

rising_after : (r : PinRecord) (rs : List PinRecord) → in_order pin_ordered (Some r) rs ≡ rising r.cycle rs
rising_after r [] = refl
rising_after r (s ∷ rs) = ap (λ b. leb r.cycle s.cycle && b) (rising_after s rs)

rising_all : (rs : List PinRecord) → cycles_in_order rs ≡ rising 0 rs
rising_all [] = refl
rising_all (r ∷ rs) = rising_after r rs ∙ sym (ap (λ b. b && rising r.cycle rs) (le-leb 0 r.cycle (omega arith)))

-- each record's cycle is not above the next one's
abbrev Steps : List PinRecord → Type 0
Steps rs = (k : ℕ) (d : PinRecord) → suc k < length rs → leb (get_or rs k d).cycle (get_or rs (suc k) d).cycle ≡ true

rising_from : (r : PinRecord) (rs : List PinRecord) → Steps (r ∷ rs) → rising r.cycle rs ≡ true
rising_from r [] h = refl
rising_from r (s ∷ rs) h =
    and_from (leb r.cycle s.cycle) (rising s.cycle rs) (h 0 r (omega arith)) (rising_from s rs (λ k d l. h (suc k) d (omega arith)))

rising_breaks : (r : PinRecord) (rs : List PinRecord) (k : ℕ) (d : PinRecord) → suc k < length (r ∷ rs)
    → leb (get_or (r ∷ rs) k d).cycle (get_or (r ∷ rs) (suc k) d).cycle ≡ false
    → rising r.cycle rs ≡ false
rising_breaks r [] k d l e = absurd (omega arith)
rising_breaks r (s ∷ rs) zero d l e = and_left (leb r.cycle s.cycle) (rising s.cycle rs) e
rising_breaks r (s ∷ rs) (suc k) d l e =
    and_right (leb r.cycle s.cycle) (rising s.cycle rs) (rising_breaks s rs k d (omega arith) e)

tested : (x y : ℕ) → is_some_and is_le (Some (nat_cmp x y)) ≡ leb x y
tested x y = by (nat_cmp x y) (ranks x y)
  where
    by : (o : Ordering) → MatchOrdering o (x < y) (x ≡ y) (y < x) → is_le o ≡ leb x y
    by Less h = sym (le-leb x y (omega arith))
    by Equal h = sym (le-leb x y (omega arith))
    by Greater h = sym (lt-leb x y h)

-- `is_sorted_by` the cycle answers whether the records are in order
pub in_order_answered : (rs : List PinRecord) (b : Bool)
    → IsAllAdjacentAnswer (λ (x y : PinRecord) (t : Bool). t ≡ is_some_and is_le (Some (nat_cmp x.cycle y.cycle))) rs b
    → b ≡ cycles_in_order rs
in_order_answered [] true h = refl
in_order_answered [] false h = absurd (omega (arith, h.1))
in_order_answered (r ∷ rs) true h =
    sym (rising_after r rs ∙ rising_from r rs (λ k d l. sym (subst (λ (m : ℕ). true ≡ leb (get_or (r ∷ rs) k d).cycle (get_or (r ∷ rs) m d).cycle) (add-one k) (h k d (omega arith) ∙ tested _ _))))
in_order_answered (r ∷ rs) false h =
    sym (rising_after r rs ∙ rising_breaks r rs h.0 r (omega (arith, h.1)) (sym (subst (λ (m : ℕ). false ≡ leb (get_or (r ∷ rs) h.0 r).cycle (get_or (r ∷ rs) m r).cycle) (add-one h.0) (h.2 r ∙ tested _ _))))

-- no record from a cycle above n on is in force
none_rising : (n m : ℕ) (rs : List PinRecord) → n < m → rising m rs ≡ true → in_force n rs ≡ []
none_rising n m [] l h = refl
none_rising n m (r ∷ rs) l h =
    let p = and_parts (leb m r.cycle) (rising r.cycle rs) h in
    let above : n < r.cycle = omega (arith, leb-true m r.cycle p.0) in
    cond-false (leb r.cycle n) (r ∷ in_force n rs) (in_force n rs) (lt-leb r.cycle n above) ∙ none_rising n r.cycle rs above p.1

in_force_append : (n : ℕ) (xs ys : List PinRecord) → in_force n (xs ++ ys) ≡ in_force n xs ++ in_force n ys
in_force_append n [] ys = refl
in_force_append n (x ∷ xs) ys =
    let more = in_force_append n xs ys in
    elim (leb x.cycle n) as (λ b. cond b (x ∷ in_force n (xs ++ ys)) (in_force n (xs ++ ys)) ≡ cond b (x ∷ in_force n xs) (in_force n xs) ++ in_force n ys)
    [ true ↦ ap (λ l. x ∷ l) more | false ↦ more ]

-- what is in force stays in force
later_step : (n m : ℕ) (r : PinRecord) (xs : List PinRecord) (b : Bool) → n ≤ m → leb r.cycle n ≡ b → in_force m xs ≡ xs → in_force m (cond b (r ∷ xs) xs) ≡ cond b (r ∷ xs) xs
later_step n m r xs true h e ih =
    let le : r.cycle ≤ m = omega (arith, leb-true r.cycle n e) in
    cond-true (leb r.cycle m) (r ∷ in_force m xs) (in_force m xs) (le-leb r.cycle m le) ∙ ap (λ l. r ∷ l) ih
later_step n m r xs false h e ih = ih

pub in_force_later : (n m : ℕ) (rs : List PinRecord) → n ≤ m → in_force m (in_force n rs) ≡ in_force n rs
in_force_later n m [] h = refl
in_force_later n m (r ∷ rs) h = later_step n m r (in_force n rs) (leb r.cycle n) h refl (in_force_later n m rs h)

-- of records in order, those in force stand at the front
due_step : (n : ℕ) (r : PinRecord) (rs : List PinRecord) (b : Bool) → leb r.cycle n ≡ b → rising r.cycle rs ≡ true → in_force n rs ≡ due_before n rs
    → cond b (r ∷ in_force n rs) (in_force n rs) ≡ cond b (r ∷ due_before n rs) []
due_step n r rs true e h ih = ap (λ l. r ∷ l) ih
due_step n r rs false e h ih = none_rising n r.cycle rs (leb-false r.cycle n e) h

in_force_first : (n m : ℕ) (rs : List PinRecord) → rising m rs ≡ true → in_force n rs ≡ due_before n rs
in_force_first n m [] h = refl
in_force_first n m (r ∷ rs) h =
    let p = and_parts (leb m r.cycle) (rising r.cycle rs) h in
    due_step n r rs (leb r.cycle n) refl p.1 (in_force_first n r.cycle rs p.1)

due_parts : (n : ℕ) (rs : List PinRecord) → due_before n rs ++ due_after n rs ≡ rs
due_parts n [] = refl
due_parts n (r ∷ rs) =
    elim (leb r.cycle n) as (λ b. cond b (r ∷ due_before n rs) [] ++ cond b (due_after n rs) (r ∷ rs) ≡ r ∷ rs)
    [ true ↦ ap (λ l. r ∷ l) (due_parts n rs) | false ↦ refl ]

rising_rest : (n : ℕ) (xs rest : List PinRecord) → rising n (xs ++ rest) ≡ true → (m : ℕ) × (rising m rest ≡ true)
rising_rest n [] rest h = (n, h)
rising_rest n (x ∷ xs) rest h = rising_rest x.cycle xs rest (and_parts (leb n x.cycle) (rising x.cycle (xs ++ rest)) h).1

last_level_push : (p : ℕ) (xs : List PinRecord) (r : PinRecord) (v : ℕ) → last_level p (xs ++ r ∷ []) v ≡ cond (eqb (port_number r.port) p) r.level (last_level p xs v)
last_level_push p [] r v = refl
last_level_push p (x ∷ xs) r v = last_level_push p xs r (cond (eqb (port_number x.port) p) x.level v)

set_level : (p : Port) (v a b c d : ℕ)
    → set (a ∷ b ∷ c ∷ d ∷ []) (port_number p) v ≡ cond (eqb (port_number p) 0) v a ∷ cond (eqb (port_number p) 1) v b ∷ cond (eqb (port_number p) 2) v c ∷ cond (eqb (port_number p) 3) v d ∷ []
set_level P0 v a b c d = refl
set_level P1 v a b c d = refl
set_level P2 v a b c d = refl
set_level P3 v a b c d = refl

-- a record more sets the level of its port
last_levels_push : (xs : List PinRecord) (r : PinRecord) → set (last_levels xs) (port_number r.port) r.level ≡ last_levels (xs ++ r ∷ [])
last_levels_push xs r =
    simp last_level_push (set_level r.port r.level (last_level 0 xs 255) (last_level 1 xs 255) (last_level 2 xs 255) (last_level 3 xs 255))

put_last : (xs ys : List PinRecord) → put_levels (last_levels xs) ys ≡ last_levels (xs ++ ys)
put_last xs [] = ap last_levels (sym (append-nil xs))
put_last xs (r ∷ ys) =
    ap (λ l. put_levels l ys) (last_levels_push xs r) ∙ put_last (xs ++ r ∷ []) ys ∙ ap last_levels (append_assoc xs (r ∷ []) ys)

-- records of which all are in force, and the rest of them: what is in force then, and the levels
pub record Advances (n : ℕ) (xs rest rs : List PinRecord) : Type 0 where
  pub passed : in_force n rs ++ due_after n rest ≡ rs
  pub current : put_levels (last_levels xs) (due_before n rest) ≡ levels_at rs n

pub advances : (n : ℕ) (xs rest rs : List PinRecord) → cycles_in_order rs ≡ true → in_force n xs ≡ xs → xs ++ rest ≡ rs → Advances n xs rest rs
advances n xs rest rs o a e =
    let up = rising_rest 0 xs rest (ap (rising 0) e ∙ sym (rising_all rs) ∙ o) in
    let all : in_force n rs ≡ xs ++ due_before n rest =
    ap (in_force n) (sym e) ∙ in_force_append n xs rest ∙ ap (λ l. l ++ in_force n rest) a ∙ ap (λ l. xs ++ l) (in_force_first n up.0 rest up.1) in
    record {
      passed = ap (λ l. l ++ due_after n rest) all ∙ append_assoc xs (due_before n rest) (due_after n rest) ∙ ap (λ l. xs ++ l) (due_parts n rest) ∙ e;
      current = put_last xs (due_before n rest) ∙ ap last_levels (sym all);
    }

-- one tick later, or more
pub advances_later : (t n : ℕ) (rest rs : List PinRecord) → t ≤ n → cycles_in_order rs ≡ true → in_force t rs ++ rest ≡ rs → Advances n (in_force t rs) rest rs
advances_later t n rest rs l o e = advances n (in_force t rs) rest rs o (in_force_later t n rs l) e

-- no record is due where the first is not
pub none_due : (n : ℕ) (rest : List PinRecord) → first_is_due n rest ≡ false → (due_before n rest ≡ []) × (due_after n rest ≡ rest)
none_due n [] h = (refl, refl)
none_due n (r ∷ rest) h = (cond-false (leb r.cycle n) (r ∷ due_before n rest) [] h, cond-false (leb r.cycle n) (due_after n rest) (r ∷ rest) h)

counted : (n : ℕ) → min (min n 4294967295 + 1) 4294967295 ≡ min (suc n) 4294967295
counted n = omega arith

-- n ticks from the start
pub plays : (rs : List PinRecord) → Plays rs
plays rs zero = refl
plays rs (suc n) = ap script_next (plays rs n) ∙ ap (λ k. played rs k (255 ∷ 255 ∷ 255 ∷ 255 ∷ [])) (counted n)
