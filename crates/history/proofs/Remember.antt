-- What MOVX reads.
use Rattle.std.proofs.Common.{◌≡◌, ℕ, cond, eqb, List, [], ◌∷◌, ◌++◌, Some, Option, sym, ap, ◌∙◌, subst}
use native.Mathlib.Decide.{ℕ_discrete}
use Rattle.std.proofs.lemmas.Bool.{eq-eqb, ne_eqb}
use Rattle.history.specs.Events.{Access, no_access, read, write, Step, Event, reset, step}
use Rattle.history.specs.Machine.{Machine}
use Rattle.history.specs.Promise.{byte_after, last_written, Remembers}
use Rattle.history.specs.Laws.{View, Accessed, MachineLaw}
use Rattle.history.proofs.Trail.{Trail, again, onward}

-- an access leaves the byte that it says
after_access : (a : ℕ) (old new : ℕ → Option ℕ) (x : Access) → Accessed x old new → new a ≡ byte_after a (old a) x
after_access a old new no_access f = f a
after_access a old new (read y b) f = f.1 a
after_access a old new (write y b) f = go (ℕ_discrete a y)
  where
    go : Dec (a ≡ y) → new a ≡ cond (eqb y a) (Some b) (old a)
    go (yes e) = rw (eq-eqb y a (sym e)) (ap new e ∙ f.0)
    go (no n) = rw (ne_eqb y a (λ e. n (sym e))) (f.1 a n)

module _ {W : Type 0} (mc : Machine W) (view : W → View) (ℓ M m : ℕ) {Sound : W → Type 0} (law : MachineLaw mc view ℓ M m Sound) where
  -- the byte that a read finds is the last one written on the way to it
  read_finds : (a b : ℕ) (x : Step) (after : List Event) → x.access ≡ read a b →
      {w : W} (before : List Event) → Trail mc w (before ++ (step x ∷ after)) → Sound w → last_written a ((view w).memory a) before ≡ Some b
  read_finds a b x after e {w} [] (onward {v = v} q t) sw =
      (subst (λ (z : Access). Accessed z (view w).memory (view v).memory) e (law.steps w x v sw q).accesses).0
  read_finds a b x after e {w} (reset ∷ bs) (again t) sw =
      ap (λ (o : Option ℕ). last_written a o bs) (sym (law.reset_memory w a)) ∙ read_finds a b x after e {w = mc.restarted w} bs t (law.reset_sound w sw)
  read_finds a b x after e {w} (step y ∷ bs) (onward {v = v} q t) sw =
      ap (λ (o : Option ℕ). last_written a o bs) (sym (after_access a (view w).memory (view v).memory y.access (law.steps w y v sw q).accesses))
      ∙ read_finds a b x after e {w = v} bs t (law.step_sound w y v sw q)

  pub remembers : {w : W} {es : List Event} → Trail mc w es → Sound w → Remembers (view w).memory es
  remembers {w} t sw a b x before after e f = read_finds a b x after f before (subst (Trail mc w) e t) sw
