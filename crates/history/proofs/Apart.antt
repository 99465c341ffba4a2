-- What stands between two vector calls at one level.
use Rattle.std.proofs.Common.{◌≡◌, ℕ, Bool, true, false, List, [], ◌∷◌, ◌++◌, Some, None, sym, refl, ap, ◌∙◌, subst}
use Rattle.history.specs.Events.{reti, call, polls, Step, Event, reset, step}
use Rattle.history.specs.Machine.{Machine}
use Rattle.history.specs.Promise.{here, Parted, by_reset, by_reti, later, Apart}
use Rattle.history.specs.Laws.{View, called, StepLaw, MachineLaw}
use Rattle.history.proofs.Trail.{Trail, again, onward}
use Rattle.history.specs.Marks.{contra, some_none, is_no_call, serves, ends_by_reti}

module _ {W : Type 0} (mc : Machine W) (view : W → View) (ℓ M m : ℕ) {Sound : W → Type 0} (law : MachineLaw mc view ℓ M m Sound) (i : ℕ) (y : Step) (is_second : y.kind ≡ call i) (after : List Event) where
  pending_call : {old new : View} → StepLaw ℓ M m old y new → old.pending ≡ Some i
  pending_call sl = sym sl.calls ∙ ap called is_second

  -- after the RETI nothing is accepted, so an instruction or a reset comes before the second call
  after_reti : {w : W} (x : Step) (between : List Event) → x.kind ≡ reti → Trail mc w (between ++ (step y ∷ after)) → Sound w → (view w).pending ≡ None →
      Parted (step x ∷ between)
  after_reti {w} x [] r (onward {v = v} e t) sw p = some_none (pending_call (law.steps w y v sw e)) p
  after_reti x (reset ∷ bs) r t sw p = later by_reset
  after_reti {w} x (step z ∷ bs) r (onward {v = v} e t) sw p = by_reti r (here (is_no_call z.kind ((law.steps w z v sw e).calls ∙ p)))

  -- while the service lasts
  in_service : {w : W} (between : List Event) → Trail mc w (between ++ (step y ∷ after)) → Sound w → (view w).shown.serving i ≡ true → Parted between
  in_service {w} [] (onward {v = v} e t) sw s = contra s (law.free w sw i (pending_call (law.steps w y v sw e)))
  in_service (reset ∷ bs) t sw s = by_reset
  in_service {w} (step x ∷ bs) (onward {v = v} e t) sw s = go ((view v).shown.serving i) refl (in_service {w = v} bs t (law.step_sound w x v sw e))
    where
      go : (b : Bool) → (view v).shown.serving i ≡ b → ((view v).shown.serving i ≡ true → Parted bs) → Parted (step x ∷ bs)
      go true f ih = later (ih f)
      go false f ih =
          let sl = law.steps w x v sw e in
          let r = ends_by_reti (view w).shown.serving (view v).shown.serving i x.kind sl.marks s f in
          after_reti x bs r t (law.step_sound w x v sw e) (sl.unpolled (ap polls r))

  from_first : {w : W} (x : Step) → x.kind ≡ call i → (before between : List Event) → Trail mc w (before ++ (step x ∷ (between ++ (step y ∷ after)))) → Sound w → Parted between
  from_first {w} x f [] between (onward {v = v} e t) sw =
      in_service between t (law.step_sound w x v sw e) (serves (view w).shown.serving (view v).shown.serving i x.kind (law.steps w x v sw e).marks f)
  from_first {w} x f (reset ∷ bs) between (again t) sw = from_first {w = mc.restarted w} x f bs between t (law.reset_sound w sw)
  from_first {w} x f (step u ∷ bs) between (onward {v = v} e t) sw = from_first {w = v} x f bs between t (law.step_sound w u v sw e)

module _ {W : Type 0} (mc : Machine W) (view : W → View) (ℓ M m : ℕ) {Sound : W → Type 0} (law : MachineLaw mc view ℓ M m Sound) where
  pub apart : {w : W} {es : List Event} → Trail mc w es → Sound w → Apart es
  apart {w} t sw i x y before between after e f g = from_first mc view ℓ M m law i y g after x f before between (subst (Trail mc w) e t) sw
