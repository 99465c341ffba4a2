-- A machine whose parts keep their laws keeps the laws of steps.
use Rattle.std.proofs.Common.{◌≡◌, ℕ, zero, suc, ◌-◌, Bool, true, false, length, Some, None, Option, sym, refl, ap, ◌∙◌, subst, arith}
use Rattle.history.specs.Events.{Kind, polls, Closing, Access, Step}
use Rattle.history.specs.Machine.{Outcome, refused, accepted}
use Rattle.history.specs.Promise.{Asks}
use Rattle.history.specs.Laws.{View, Marked, Accessed, last, before_last, Every, StepLaw, MachineLaw}
use Rattle.history.specs.Cycles.{Decided, refuses, does, Parts, inside, silent, last_cycle, closings, outcome, machine, Quiet, ChangeLaw, Changes, PartsLaw}
use Rattle.history.specs.Marks.{contra, some_none}

-- What holds between two steps: what is held and enabled was sampled, and no request is accepted whose service is in progress.
pub record Sound (x : View) : Type 0 where
  pub fresh : (s : ℕ) → x.shown.held s ≡ true → x.shown.enabled s ≡ true → x.sampled s ≡ true
  pub free : (i : ℕ) → x.pending ≡ Some i → x.shown.serving i ≡ false

pub quiet_sound : {x : View} → Quiet x → Sound x
quiet_sound q = record { fresh = λ s h e. contra e (q.disabled s); free = λ i e. some_none e q.no_request }

abbrev Inside : Type 0
Inside = Option ℕ × (ℕ → Bool) × (ℕ → Option ℕ)

-- The request of source s at level ℓ is ready for the poll.
abbrev Ready : ℕ → ℕ → View → Type 0
Ready ℓ s x = (x.sampled s ≡ true) × (x.shown.enabled s ≡ true) × (x.shown.level s ≡ ℓ)

-- the number of the closings
pub closings_length : {W : Type 0} (c : Parts W) (n : ℕ) (p : Bool) (w : W) → length (closings c n p w) ≡ suc n
closings_length c zero p w = refl
closings_length c (suc n) p w = ap suc (closings_length c n p (c.tick w))

module _ {W : Type 0} (c : Parts W) (ℓ M m : ℕ) (law : PartsLaw c ℓ M m) where
  -- the last of the closings
  closings_last : (n : ℕ) (p : Bool) (b : Closing) (w : W) → (c.view (last_cycle c p (silent c n w))).shown ≡ last b (closings c n p w)
  closings_last zero p b w = refl
  closings_last (suc n) p b w = closings_last n p (c.view (c.tick w)).shown (c.tick w)

  -- what cycles leave as it was
  silent_inside : (n : ℕ) (w : W) → inside (c.view (silent c n w)) ≡ inside (c.view w)
  silent_inside zero w = refl
  silent_inside (suc n) w = silent_inside n (c.tick w) ∙ (law.tick_law w).same_inside

  last_marks : (p : Bool) (w : W) → (c.view (last_cycle c p w)).shown.serving ≡ (c.view w).shown.serving
  last_marks true w = ap (λ (x : Inside). x.1) (law.tick_law (c.poll w)).same_inside ∙ (law.poll_law w).same_marks
  last_marks false w = ap (λ (x : Inside). x.1) (law.tick_law w).same_inside

  last_memory : (p : Bool) (w : W) → (c.view (last_cycle c p w)).memory ≡ (c.view w).memory
  last_memory true w = ap (λ (x : Inside). x.2) (law.tick_law (c.poll w)).same_inside ∙ (law.poll_law w).same_memory
  last_memory false w = ap (λ (x : Inside). x.2) (law.tick_law w).same_inside

  all_marks : (n : ℕ) (p : Bool) (w : W) → (c.view (last_cycle c p (silent c n w))).shown.serving ≡ (c.view w).shown.serving
  all_marks n p w = last_marks p (silent c n w) ∙ ap (λ (x : Inside). x.1) (silent_inside n w)

  steady : (n : ℕ) (p : Bool) (w : W) (f : ℕ → Bool) → (c.view w).shown.serving ≡ f → Every (λ x. x.serving ≡ f) (closings c n p w)
  steady zero p w f e = (last_marks p w ∙ e, tt)
  steady (suc n) p w f e = let d = ap (λ (x : Inside). x.1) (law.tick_law w).same_inside ∙ e in (d, steady n p (c.tick w) f d)

  last_samples : (p : Bool) (w : W) (s : ℕ) → (c.view (last_cycle c p w)).shown.held s ≡ true → (c.view (last_cycle c p w)).sampled s ≡ true
  last_samples true w = (law.tick_law (c.poll w)).samples
  last_samples false w = (law.tick_law w).samples

  -- a request that is there at the end of the cycle before the last is ready for the poll in the last
  ready : (s n : ℕ) (b : Closing) (w : W) → (Asks ℓ s b → Ready ℓ s (c.view w)) → Asks ℓ s (before_last b (closings c n true w)) → Ready ℓ s (c.view (silent c n w))
  ready s zero b w f a = f a
  ready s (suc zero) b w f a = ((law.tick_law w).samples s a.0, a.1, a.2)
  ready s (suc (suc n)) b w f a =
      ready s (suc n) (c.view (c.tick w)).shown (c.tick w) (λ q. ((law.tick_law w).samples s q.0, q.1, q.2)) a

  -- what is accepted after the cycles
  last_pending : (p : Bool) (w : W) → p ≡ false → (c.view (last_cycle c p w)).pending ≡ (c.view w).pending
  last_pending true w e = contra refl e
  last_pending false w e = ap (λ (x : Inside). x.0) (law.tick_law w).same_inside

  poll_pending : (w : W) → (c.view (last_cycle c true w)).pending ≡ (c.view (c.poll w)).pending
  poll_pending w = ap (λ (x : Inside). x.0) (law.tick_law (c.poll w)).same_inside

  accepts : (p : Bool) → p ≡ true → (s n : ℕ) (b : Closing) (w : W) → (Asks ℓ s b → Ready ℓ s (c.view w)) → Asks ℓ s (before_last b (closings c n p w)) →
      (c.view w).shown.serving ℓ ≡ false → (c.view (last_cycle c p (silent c n w))).pending ≡ Some ℓ
  accepts true e s n b w f a d =
      let r = ready s n b w f a in
      let u = silent c n w in
      poll_pending u ∙ (law.poll_law u).accepts s r.0 r.1 r.2 (ap (λ (x : Inside). x.1 ℓ) (silent_inside n w) ∙ d)
  accepts false e s n b w f a d = contra e refl

  last_free : (p : Bool) (w : W) → ((c.view w).pending ≡ None) → (i : ℕ) → (c.view (last_cycle c p w)).pending ≡ Some i → (c.view w).shown.serving i ≡ false
  last_free true w e i f = (law.poll_law w).bars i (sym (poll_pending w) ∙ f)
  last_free false w e i f = some_none f (last_pending false w refl ∙ e)

  -- a step that changes the state to u, and then has n cycles and a last one
  module _ (w u : W) (k : Kind) (n : ℕ) (a : Access) (p : Bool) (sw : Sound (c.view w)) (cl : ChangeLaw M m k (suc n) a (c.view w) (c.view u)) where
    abbrev made : Step
    made = record { kind = k; cycles = closings c n (polls k) u; access = a; port = p }

    abbrev end : W
    end = last_cycle c (polls k) (silent c n u)

    same_marks : (i : ℕ) → (c.view end).shown.serving i ≡ (c.view u).shown.serving i
    same_marks i = ap (λ (f : ℕ → Bool). f i) (all_marks n (polls k) u)

    silent_none : (c.view (silent c n u)).pending ≡ None
    silent_none = ap (λ (x : Inside). x.0) (silent_inside n u) ∙ cl.uses_up

    step_law : StepLaw ℓ M m (c.view w) made (c.view end)
    step_law = record {
      calls = cl.calls;
      some_cycle = rw (closings_length c n (polls k) u) (omega arith);
      lasts = rw (closings_length c n (polls k) u) cl.lasts;
      marks = subst (Marked k (c.view w).shown.serving) (sym (all_marks n (polls k) u)) cl.marks;
      steady = steady n (polls k) u (c.view end).shown.serving (sym (all_marks n (polls k) u));
      closes = closings_last n (polls k) (c.view w).shown u;
      polled = λ e s q d. accepts (polls k) e s n (c.view w).shown u
          (λ b. (ap (λ (f : ℕ → Bool). f s) cl.same_sample ∙ sw.fresh s b.0 b.1, ap (λ (f : ℕ → Bool). f s) (cl.same_enabled e) ∙ b.1, ap (λ (f : ℕ → ℕ). f s) (cl.same_level e) ∙ b.2))
          q (sym (same_marks ℓ) ∙ d);
      unpolled = λ e. last_pending (polls k) (silent c n u) e ∙ silent_none;
      accesses = subst (Accessed a (c.view w).memory) (sym (last_memory (polls k) (silent c n u) ∙ ap (λ (x : Inside). x.2) (silent_inside n u))) cl.accesses;
    }

    sound : Sound (c.view end)
    sound = record {
      fresh = λ s h e. last_samples (polls k) (silent c n u) s h;
      free = λ i e. ap (λ (f : ℕ → Bool). f i) (last_marks (polls k) (silent c n u)) ∙ last_free (polls k) (silent c n u) silent_none i e;
    }

  abbrev Lawful : W → Outcome W → Type 0
  Lawful w refused = Unit {0}
  Lawful w (accepted x v) = StepLaw ℓ M m (c.view w) x (c.view v) × Sound (c.view v)

  lawful : (w : W) → Sound (c.view w) → (d : Decided W) → Changes M m c.view w d → Lawful w (outcome c d)
  lawful w sw refuses cl = tt
  lawful w sw (does k n a p u) cl =
      let f : n ≡ suc (n - 1) = omega (arith, cl.some_cycle) in
      let dl = subst (λ (j : ℕ). ChangeLaw M m k j a (c.view w) (c.view u)) f cl in
      let settled = law.settle_law (last_cycle c (polls k) (silent c (n - 1) u)) in (
        subst (StepLaw ℓ M m (c.view w) (record { kind = k; cycles = closings c (n - 1) (polls k) u; access = a; port = p })) (sym settled) (step_law w u k (n - 1) a p sw dl),
        subst Sound (sym settled) (sound w u k (n - 1) a p sw dl),
      )

  pub machine_law : MachineLaw (machine c) c.view ℓ M m (λ w. Sound (c.view w))
  machine_law = record {
    in_order = law.in_order;
    steps = λ w x v sw e. (subst (Lawful w) e (lawful w sw (c.decide w) (law.change_law w))).0;
    step_sound = λ w x v sw e. (subst (Lawful w) e (lawful w sw (c.decide w) (law.change_law w))).1;
    reset_sound = λ w sw. quiet_sound (law.reset_quiet w);
    reset_memory = law.reset_memory;
    free = λ w sw. sw.free;
  }
