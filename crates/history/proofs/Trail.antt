-- A history with the states between its events, and that every list of calls makes one.
use Rattle.std.proofs.Common.{◌≡◌, ℕ, zero, suc, cond, List, [], ◌∷◌, ◌++◌, refl}
use Rattle.history.specs.Events.{Step, Event, reset, step}
use Rattle.history.specs.Machine.{Outcome, refused, accepted, Machine, Call, Reset, StepOnce, Run, Made, follow, done, ran, made, history}

pub data Trail {W : Type 0} (mc : Machine W) : W → List Event → Type 0 where
  stop : {w : W} → Trail mc w []
  again : {w : W} {es : List Event} → Trail mc (mc.restarted w) es → Trail mc w (reset ∷ es)
  onward : {w v : W} {x : Step} {es : List Event} → mc.stepped w ≡ accepted x v → Trail mc v es → Trail mc w (step x ∷ es)

module _ {W : Type 0} (mc : Machine W) where
  -- what was made, and then a trail from there, is a trail
  abbrev Leads : W → Made W → Type 0
  Leads w r = (es : List Event) → Trail mc r.state es → Trail mc w (r.events ++ es)

  follow_leads : (w : W) (o : Outcome W) (next : Step → W → Made W) → mc.stepped w ≡ o → ((x : Step) (v : W) → Leads v (next x v)) → Leads w (follow w o next)
  follow_leads w refused next e f es t = t
  follow_leads w (accepted x v) next e f es t = onward e (f x v es t)

  ran_leads : (n t p : ℕ) (w : W) → Leads w (ran mc n t p w)
  ran_leads zero t p w es x = x
  ran_leads (suc n) zero p w es x = x
  ran_leads (suc n) (suc t) zero w es x = x
  ran_leads (suc n) (suc t) (suc p) w es x =
      follow_leads w (mc.stepped w) (λ y v. ran mc n t (cond y.port p (suc p)) v) refl (λ y v. ran_leads n t (cond y.port p (suc p)) v) es x

  made_leads : (c : Call) (w : W) → Leads w (made mc c w)
  made_leads Reset w es t = again t
  made_leads StepOnce w es t = follow_leads w (mc.stepped w) (λ x v. done v) refl (λ x v fs u. u) es t
  made_leads (Run n t p) w es x = ran_leads n t p w es x

  pub trail : (cs : List Call) (w : W) → Trail mc w (history mc w cs)
  trail [] w = stop
  trail (c ∷ cs) w = made_leads c w (history mc (made mc c w).state cs) (trail cs (made mc c w).state)
