-- What a step's kind tells of the marks, and of the request that was accepted before it.
use Rattle.std.specs.Prelude.{◌≡◌, ℕ, Bool, true, false, ◌≢◌, Some, None, Option, refl}
use Rattle.std.proofs.Common.{sym, ap, subst, ◌∙◌}
use Rattle.std.proofs.Math.Decide.{ℕ_discrete}
use Rattle.history.specs.Events.{Kind, plain, control, reti, call}
use Rattle.history.specs.Promise.{is_instruction}
use Rattle.history.specs.Laws.{called, Marked}

pub contra : {A : Type 0} {b : Bool} → b ≡ true → b ≡ false → A
contra e f = cc

pub some_none : {A : Type 0} {o : Option ℕ} {n : ℕ} → o ≡ Some n → o ≡ None → A
some_none e f = cc

-- where a request is accepted, the step is its call, and else an instruction
pub is_call : (k : Kind) (ℓ : ℕ) → called k ≡ Some ℓ → k ≡ call ℓ
is_call plain ℓ e = some_none e refl
is_call control ℓ e = some_none e refl
is_call reti ℓ e = some_none e refl
is_call (call i) ℓ e = cc

pub is_no_call : (k : Kind) → called k ≡ None → is_instruction k ≡ true
is_no_call plain e = refl
is_no_call control e = refl
is_no_call reti e = refl
is_no_call (call i) e = some_none refl e

pub call_or_not : (k : Kind) (ℓ : ℕ) → Dec (k ≡ call ℓ)
call_or_not plain ℓ = no (λ e. some_none (ap called e) refl)
call_or_not control ℓ = no (λ e. some_none (ap called e) refl)
call_or_not reti ℓ = no (λ e. some_none (ap called e) refl)
call_or_not (call i) ℓ = elim (ℕ_discrete i ℓ) [ yes e ↦ yes (ap call e) | no n ↦ no (λ e. n cc) ]

module _ (old new : ℕ → Bool) (ℓ : ℕ) where
  -- a service begins only by a vector call at its level
  pub stays_idle : (k : Kind) → Marked k old new → k ≢ call ℓ → old ℓ ≡ false → new ℓ ≡ false
  stays_idle plain f n e = f ℓ ∙ e
  stays_idle control f n e = f ℓ ∙ e
  stays_idle reti f n e = go (new ℓ) refl
    where
      go : (b : Bool) → new ℓ ≡ b → new ℓ ≡ false
      go true g = contra (f ℓ g) e
      go false g = g
  stays_idle (call i) f n e = f.1 ℓ (λ g. n (ap call (sym g))) ∙ e

  -- it begins with that call
  pub serves : (k : Kind) → Marked k old new → k ≡ call ℓ → new ℓ ≡ true
  serves k f e = (subst (λ (j : Kind). Marked j old new) e f).0

  -- and ends only by RETI
  pub ends_by_reti : (k : Kind) → Marked k old new → old ℓ ≡ true → new ℓ ≡ false → k ≡ reti
  ends_by_reti plain f e g = contra (f ℓ ∙ e) g
  ends_by_reti control f e g = contra (f ℓ ∙ e) g
  ends_by_reti reti f e g = refl
  ends_by_reti (call i) f e g = elim (ℕ_discrete ℓ i) [ yes q ↦ contra (ap new q ∙ f.0) g | no q ↦ contra (f.1 ℓ q ∙ e) g ]
