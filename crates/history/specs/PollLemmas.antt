-- A poll by the rule keeps the law of polls.
use Rattle.std.specs.Prelude.{◌≡◌, ℕ, zero, suc, ◌<◌, ◌≤◌, Bool, true, false, cond, Some, None, Option, nat_lt, refl}
use Rattle.std.proofs.Common.{sym, ap, ◌∙◌, arith}
use Rattle.std.proofs.Math.Decide.{ℕ_discrete}
use Rattle.std.proofs.lemmas.Bool.{cond_both, ltb-true, ltb-false, lt-ltb, le-ltb}
use Rattle.history.specs.Laws.{View}
use Rattle.history.specs.Cycles.{PollLaw}
use Rattle.history.specs.Poll.{over, taken, barred, unless_barred, poll_of, level_of}
use Rattle.history.specs.Marks.{contra, some_none}

module _ (asks : ℕ → Bool) (level : ℕ → ℕ) where
  -- some source is taken, at this level or above
  abbrev Taken : ℕ → Option ℕ → Type 0
  Taken i o = (t : ℕ) × (o ≡ Some t) × (i ≤ level t)

  over_self : (s : ℕ) (r : Option ℕ) → Taken (level s) (over level s r)
  over_self s None = (s, refl, omega arith)
  over_self s (Some t) =
      cond_both (nat_lt (level t) (level s)) (Some s) (Some t) (Taken (level s)) (λ e. (s, refl, omega arith)) (λ e. (t, refl, ltb-false (level t) (level s) e))

  over_other : (i s : ℕ) (r : Option ℕ) → Taken i r → Taken i (over level s r)
  over_other i s None h = some_none h.1 refl
  over_other i s (Some t) h =
      let same : t ≡ h.0 = cc in
      let below : i ≤ level t = rw same h.2 in
      cond_both (nat_lt (level t) (level s)) (Some s) (Some t) (Taken i) (λ e. (s, refl, omega (arith, below, ltb-true (level t) (level s) e))) (λ e. (t, refl, below))

  takes : (n s : ℕ) → asks s ≡ true → 0 < s → s ≤ n → Taken (level s) (taken asks level n)
  takes zero s a p q = absurd (omega arith)
  takes (suc n) s a p q = go (ℕ_discrete s (suc n)) (asks (suc n)) refl (takes n s a p)
    where
      go : Dec (s ≡ suc n) → (b : Bool) → asks (suc n) ≡ b → (s ≤ n → Taken (level s) (taken asks level n)) →
          Taken (level s) (cond b (over level (suc n) (taken asks level n)) (taken asks level n))
      go (yes e) true f ih = rw e (over_self (suc n) (taken asks level n))
      go (yes e) false f ih = contra (ap asks (sym e) ∙ a) f
      go (no e) true f ih = over_other (level s) (suc n) (taken asks level n) (ih (omega arith))
      go (no e) false f ih = ih (omega arith)

module _ (serving : ℕ → Bool) where
  not_barred : (n i : ℕ) → n ≤ i → barred serving n i ≡ false
  not_barred zero i h = refl
  not_barred (suc n) i h = rw (lt-ltb n i (omega arith)) refl

  -- the highest level is barred by its own service alone
  top_barred : (ℓ : ℕ) → serving ℓ ≡ false → barred serving (suc ℓ) ℓ ≡ false
  top_barred ℓ e = rw (le-ltb ℓ ℓ (omega arith), e) (not_barred ℓ ℓ (omega arith))

  not_served : (n i : ℕ) → i < n → barred serving n i ≡ false → serving i ≡ false
  not_served zero i h e = absurd (omega arith)
  not_served (suc n) i h e = go (ℕ_discrete i n) (serving n) refl (rw (le-ltb n i (omega arith)) at e) (λ q. not_served n i q)
    where
      go : Dec (i ≡ n) → (b : Bool) → serving n ≡ b → cond b true (barred serving n i) ≡ false → (i < n → barred serving n i ≡ false → serving i ≡ false) → serving i ≡ false
      go d true f g ih = contra refl g
      go (yes q) false f g ih = ap serving q ∙ f
      go (no q) false f g ih = ih (omega arith) g

module _ (level : ℕ → ℕ) (serving : ℕ → Bool) (ℓ : ℕ) where
  accepts_top : (o : Option ℕ) (t : ℕ) → o ≡ Some t → level t ≡ ℓ → serving ℓ ≡ false → level_of level (unless_barred level serving (suc ℓ) o) ≡ Some ℓ
  accepts_top o t e f d = rw (e, f, top_barred serving ℓ d) (ap Some f)

  bars_served : (o : Option ℕ) → ((s : ℕ) → level s ≤ ℓ) → (i : ℕ) → level_of level (unless_barred level serving (suc ℓ) o) ≡ Some i → serving i ≡ false
  bars_served None h i e = some_none e refl
  bars_served (Some s) h i e =
      cond_both (barred serving (suc ℓ) (level s)) None (Some s) (λ o. level_of level o ≡ Some i → serving i ≡ false)
      (λ f g. some_none g refl)
      (λ f g. let q : level s ≡ i = cc in rw (← q) (not_served serving (suc ℓ) (level s) (omega (arith, h s)) f))
      e

-- The sources are 1 to n, and the levels 0 to ℓ.
pub poll_keeps : (n ℓ : ℕ) (old new : View) → new.pending ≡ level_of old.shown.level (poll_of n (suc ℓ) old.sampled old.shown) →
    new.shown.serving ≡ old.shown.serving → new.memory ≡ old.memory →
    ((s : ℕ) → old.sampled s ≡ true → (0 < s) × (s ≤ n)) → ((s : ℕ) → old.shown.level s ≤ ℓ) → PollLaw ℓ old new
poll_keeps n ℓ old new e f g among below = record {
  same_marks = f;
  same_memory = g;
  accepts = λ s a b h d.
      (let r = takes asks old.shown.level n s (rw a b) (among s a).0 (among s a).1 in
      e ∙ accepts_top old.shown.level old.shown.serving ℓ (taken asks old.shown.level n) r.0 r.1 (omega (arith, r.2, below r.0)) d);
  bars = λ i h. bars_served old.shown.level old.shown.serving ℓ (taken asks old.shown.level n) below i (sym e ∙ h);
}
  where
    asks : ℕ → Bool
    asks s = cond (old.sampled s) (old.shown.enabled s) false
