-- How long a request at the highest level waits.
use Rattle.std.proofs.Common.{◌≡◌, ℕ, suc, ◌+◌, ◌*◌, ◌<◌, ◌≤◌, max, Bool, true, false, cond, ◌≢◌, List, [], ◌∷◌, ◌++◌, length, Some, sym, refl, ap, ◌∙◌, subst, mul-suc, arith}
use Rattle.history.specs.Events.{Kind, plain, control, reti, call, polls, Closing, Step, Event, step, Moment, restart, cycle, step_moments, moments}
use Rattle.history.specs.Machine.{Machine}
use Rattle.history.specs.Promise.{Asks, Waiting, begun, goes_on, in_call, over, ends_unpolled, unpolled, limit, Prompt}
use Rattle.history.specs.Laws.{View, most_cycles, last, before_last, Every, StepLaw, MachineLaw}
use Rattle.history.proofs.Trail.{Trail, stop, again, onward}
use Rattle.history.specs.Marks.{contra, is_call, call_or_not, stays_idle, serves}

-- The most cycles by whether the step polls.
most_polling : (M m : ℕ) (k : Kind) → polls k ≡ true → most_cycles M m k ≤ max M 2
most_polling M m plain p = omega arith
most_polling M m control p = contra p refl
most_polling M m reti p = contra p refl
most_polling M m (call i) p = omega arith

most_unpolled : (M m : ℕ) (k : Kind) → polls k ≡ false → most_cycles M m k ≤ m
most_unpolled M m plain p = contra refl p
most_unpolled M m control p = omega arith
most_unpolled M m reti p = omega arith
most_unpolled M m (call i) p = contra refl p

module _ (ℓ s : ℕ) where
  -- the wait goes on through the first n of these moments, in which i instructions that do not poll end
  data Waits : List Moment → ℕ → ℕ → Type 0 where
    now : {ms : List Moment} → Waits ms 0 0
    goes : {k : Kind} {l : Bool} {c : Closing} {ms : List Moment} {n i : ℕ} →
        k ≢ call ℓ → Asks ℓ s c → Waits ms n i → Waits (cycle k l c ∷ ms) (suc n) (cond (ends_unpolled k l) (suc i) i)
    calling : {c : Closing} {ms : List Moment} {n i : ℕ} → Waits ms n i → Waits (cycle (call ℓ) false c ∷ ms) (suc n) i
    ends : {c : Closing} {ms : List Moment} → Waits (cycle (call ℓ) true c ∷ ms) 1 0

  counted : {ms : List Moment} → Waiting ℓ s ms → (after : List Moment) → Waits (ms ++ after) (length ms) (unpolled ms)
  counted begun after = now
  counted (goes_on g q u) after = goes g q (counted u after)
  counted (in_call u) after = calling (counted u after)
  counted over after = ends

  -- n is at most m * i + b for every wait through these moments
  abbrev Bounded : ℕ → ℕ → List Moment → Type 0
  Bounded m b ms = (n i : ℕ) → Waits ms n i → n ≤ m * i + b

  -- a vector call at the level ends the wait
  through_call : (k : Kind) → k ≡ call ℓ → (ms : List Moment) (cs : List Closing) → 0 < length cs → (n i : ℕ) → Waits (step_moments k cs ++ ms) n i → n ≤ length cs
  through_call k e ms [] h _ _ u = absurd (omega arith)
  through_call k e ms (c ∷ []) h _ _ now = omega arith
  through_call k e ms (c ∷ []) h _ _ (goes g q u) = absurd (g e)
  through_call k e ms (c ∷ []) h _ _ ends = omega arith
  through_call k e ms (c ∷ (d ∷ ds)) h _ _ now = omega arith
  through_call k e ms (c ∷ (d ∷ ds)) h _ _ (goes g q u) = absurd (g e)
  through_call k e ms (c ∷ (d ∷ ds)) h _ _ (calling u) = omega (arith, through_call k e ms (d ∷ ds) (omega arith) _ _ u)

  -- a step that polls: b closed before its cycles, or those left of it; if the request asked in the cycle before the last one, it is accepted
  through_poll : (k : Kind) → k ≢ call ℓ → (ms : List Moment) (b c : Closing) (cs : List Closing) → Asks ℓ s b →
      (Asks ℓ s (before_last b (c ∷ cs)) → (n i : ℕ) → Waits ms n i → n ≤ 2) →
      (n i : ℕ) → Waits (step_moments k (c ∷ cs) ++ ms) n i → n ≤ length (c ∷ cs) + 2
  through_poll k g ms b c [] a f _ _ now = omega arith
  through_poll k g ms b c [] a f _ _ (goes h q u) = omega (arith, f a _ _ u)
  through_poll k g ms b c [] a f _ _ ends = omega arith
  through_poll k g ms b c (d ∷ ds) a f _ _ now = omega arith
  through_poll k g ms b c (d ∷ ds) a f _ _ (goes h q u) = omega (arith, through_poll k g ms c d ds q f _ _ u)
  through_poll k g ms b c (d ∷ ds) a f _ _ (calling u) = absurd (g refl)

  -- an instruction that does not poll, of which j cycles are done
  through_silent : (m x : ℕ) → m ≤ x → (k : Kind) → polls k ≡ false → (ms : List Moment) (j : ℕ) (c : Closing) (cs : List Closing) → j + length (c ∷ cs) ≤ m →
      (Asks ℓ s (last c cs) → Bounded m x ms) →
      (n i : ℕ) → Waits (step_moments k (c ∷ cs) ++ ms) n i → j + n ≤ m * i + x
  through_silent m x o k p ms j c [] h f _ _ now = omega arith
  through_silent m x o k p ms j c [] h f _ _ (goes {i = i} g q u) = rw p (omega (arith, mul-suc m i, f q _ _ u))
  through_silent m x o k p ms j c [] h f _ _ ends = contra refl p
  through_silent m x o k p ms j c (d ∷ ds) h f _ _ now = omega arith
  through_silent m x o k p ms j c (d ∷ ds) h f _ _ (goes g q u) = omega (arith, through_silent m x o k p ms (j + 1) d ds (omega arith) f _ _ u)
  through_silent m x o k p ms j c (d ∷ ds) h f _ _ (calling u) = contra refl p

module _ {W : Type 0} (mc : Machine W) (view : W → View) (ℓ M m : ℕ) {Sound : W → Type 0} (law : MachineLaw mc view ℓ M m Sound) (s : ℕ) where
  abbrev Short : List Moment → Type 0
  Short ms = (n i : ℕ) → Waits ℓ s ms n i → n ≤ limit M m i

  -- a vector call at the level has at most 2 cycles
  by_call : {w v : W} (x : Step) → StepLaw ℓ M m (view w) x (view v) → x.kind ≡ call ℓ → (es : List Event) → (n i : ℕ) → Waits ℓ s (moments (step x ∷ es)) n i → n ≤ 2
  by_call x sl e es n i u =
      omega (arith, through_call ℓ s x.kind e (moments es) x.cycles sl.some_cycle n i u, sl.lasts, ap (most_cycles M m) e)

  -- an accepted request at the level is called at once
  soon : {w : W} {es : List Event} → Trail mc w es → Sound w → (view w).pending ≡ Some ℓ → (n i : ℕ) → Waits ℓ s (moments es) n i → n ≤ 2
  soon stop sw p _ _ now = omega arith
  soon (again t) sw p _ _ now = omega arith
  soon {w} (onward {v = v} {x = x} {es = es} e t) sw p n i u =
      let sl = law.steps w x v sw e in by_call x sl (is_call x.kind ℓ (sl.calls ∙ p)) es n i u

  -- What is left of a step of kind k that leads to the state v, after a cycle that closed as b.
  record Rest (k : Kind) (v : W) (b : Closing) (cs : List Closing) : Type 0 where
    lasts : length cs ≤ most_cycles M m k
    closes : (view v).shown ≡ last b cs
    polled : polls k ≡ true → Asks ℓ s (before_last b cs) → (view v).shown.serving ℓ ≡ false → (view v).pending ≡ Some ℓ

  whole : {w v : W} (x : Step) → StepLaw ℓ M m (view w) x (view v) → Rest x.kind v (view w).shown x.cycles
  whole x sl = record { lasts = sl.lasts; closes = sl.closes; polled = λ p. sl.polled p s }

  next_cycle : {k : Kind} {v : W} {b c d : Closing} {ds : List Closing} → Rest k v b (c ∷ (d ∷ ds)) → Rest k v c (d ∷ ds)
  next_cycle r = record { lasts = omega (arith, r.lasts); closes = r.closes; polled = r.polled }

  -- a wait that begins with that cycle, where the one that begins with the step's end is short
  through_rest : (k : Kind) {v : W} {es : List Event} (b : Closing) (cs : List Closing) → k ≢ call ℓ → Rest k v b cs → 0 < length cs → Trail mc v es → Sound v →
      (view v).shown.serving ℓ ≡ false → Asks ℓ s b → (Asks ℓ s (view v).shown → Short (moments es)) → Short (step_moments k cs ++ moments es)
  through_rest k b [] g r h t sv d a ih n i u = absurd (omega arith)
  through_rest k {es = es} b (c ∷ cs) g r h t sv d a ih n i u = go (polls k) refl
    where
      go : (p : Bool) → polls k ≡ p → n ≤ limit M m i
      go true p = omega (arith, r.lasts, most_polling M m k p, through_poll ℓ s k g (moments es) b c cs a (λ q. soon t sv (r.polled p q d)) n i u)
      go false p =
          omega (
            arith,
            through_silent ℓ s m (2 + max M 2) (omega (arith, law.in_order)) k p (moments es) 0 c cs (omega (arith, r.lasts, most_unpolled M m k p))
                (λ q. ih (subst (Asks ℓ s) (sym r.closes) q)) n i u,
          )

  -- a wait that begins with the last cycle before these events
  from_now : {w : W} {es : List Event} → Trail mc w es → Sound w → (view w).shown.serving ℓ ≡ false → Asks ℓ s (view w).shown → Short (moments es)
  from_now stop sw d a _ _ now = omega arith
  from_now (again t) sw d a _ _ now = omega arith
  from_now {w} (onward {v = v} {x = x} {es = es} e t) sw d a n i u =
      let sl = law.steps w x v sw e in
      let sv = law.step_sound w x v sw e in
      elim (call_or_not x.kind ℓ) [
        | yes f ↦ omega (arith, by_call x sl f es n i u)
        | no g ↦
            (let idle = stays_idle (view w).shown.serving (view v).shown.serving ℓ x.kind sl.marks g d in
            through_rest x.kind (view w).shown x.cycles g (whole x sl) sl.some_cycle t sv idle a (from_now t sv idle) n i u)
      ]

  -- Every wait that begins in these moments is short.
  abbrev After : Moment → List Moment → Type 0
  After restart ms = Unit {0}
  After (cycle k l c) ms = Asks ℓ s c → c.serving ℓ ≡ false → Short ms

  abbrev AllShort : List Moment → Type 0
  AllShort [] = Unit {0}
  AllShort (x ∷ ms) = After x ms × AllShort ms

  at_cut : (before : List Moment) (x : Moment) (ms : List Moment) → AllShort (before ++ (x ∷ ms)) → After x ms
  at_cut [] x ms h = h.0
  at_cut (y ∷ ys) x ms h = at_cut ys x ms h.1

  in_step : (k : Kind) {v : W} {es : List Event} (b : Closing) (cs : List Closing) → Rest k v b cs → Trail mc v es → Sound v → (k ≡ call ℓ → (view v).shown.serving ℓ ≡ true) →
      Every (λ c. c.serving ≡ (view v).shown.serving) cs → AllShort (moments es) → AllShort (step_moments k cs ++ moments es)
  in_step k b [] r t sv f st h = h
  in_step k b (c ∷ []) r t sv f st h = (λ a d. from_now t sv (ap (λ (g : ℕ → Bool). g ℓ) (sym st.0) ∙ d) (subst (Asks ℓ s) (sym r.closes) a), h)
  in_step k {v} b (c ∷ (d ∷ ds)) r t sv f st h = (
    λ a z.
        let idle = ap (λ (g : ℕ → Bool). g ℓ) (sym st.0) ∙ z in
        through_rest k c (d ∷ ds) (λ e. contra (f e) idle) (next_cycle r) (omega arith) t sv idle a (from_now t sv idle),
    in_step k c (d ∷ ds) (next_cycle r) t sv f st.1 h,
  )

  all_short : {w : W} {es : List Event} → Trail mc w es → Sound w → AllShort (moments es)
  all_short stop sw = tt
  all_short {w} (again t) sw = (tt, all_short t (law.reset_sound w sw))
  all_short {w} (onward {v = v} {x = x} e t) sw =
      let sl = law.steps w x v sw e in
      let sv = law.step_sound w x v sw e in
      in_step x.kind (view w).shown x.cycles (whole x sl) t sv (serves (view w).shown.serving (view v).shown.serving ℓ x.kind sl.marks) sl.steady (all_short t sv)

module _ {W : Type 0} (mc : Machine W) (view : W → View) (ℓ M m : ℕ) {Sound : W → Type 0} (law : MachineLaw mc view ℓ M m Sound) where
  pub prompt : {w : W} {es : List Event} → Trail mc w es → Sound w → Prompt ℓ (limit M m) es
  prompt t sw s k l c before during after e a d u =
      at_cut mc view ℓ M m law s before (cycle k l c) (during ++ after) (subst (AllShort mc view ℓ M m law s) e (all_short mc view ℓ M m law s t sw)) a d
      (length during) (unpolled during) (counted ℓ s u after)
