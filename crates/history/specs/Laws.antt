-- What a machine has to show of one accepted step, so that the promise of whole histories follows.
use Rattle.std.specs.Prelude.{◌≡◌, ℕ, ◌<◌, ◌≤◌, Bool, true, false, ◌≢◌, List, [], ◌∷◌, length, Some, None, Option}
use Rattle.history.specs.Events.{Kind, plain, control, reti, call, polls, Closing, Access, no_access, read, write, Step}
use Rattle.history.specs.Machine.{Machine, accepted, Call, history}
use Rattle.history.specs.Promise.{Asks, limit, Promise}

-- What the laws ask of a state: how the last cycle closed, which requests it sampled, the level of the accepted request, if there is one,
-- and the data byte at each address.
pub record View : Type 0 where
  pub shown : Closing
  pub sampled : ℕ → Bool
  pub pending : Option ℕ
  pub memory : ℕ → Option ℕ

-- The level that a step calls, if it is a vector call.
abbrev pub called : Kind → Option ℕ
called plain = None
called control = None
called reti = None
called (call ℓ) = Some ℓ

-- The most cycles that a step of each kind has.
abbrev pub most_cycles : ℕ → ℕ → Kind → ℕ
most_cycles M m plain = M
most_cycles M m control = m
most_cycles M m reti = m
most_cycles M m (call ℓ) = 2

-- What a step of each kind does to the marks of the services in progress: a vector call sets the one of its level, RETI sets none,
-- and others leave them.
abbrev pub Marked : Kind → (ℕ → Bool) → (ℕ → Bool) → Type 0
Marked plain old new = (i : ℕ) → new i ≡ old i
Marked control old new = (i : ℕ) → new i ≡ old i
Marked reti old new = (i : ℕ) → new i ≡ true → old i ≡ true
Marked (call ℓ) old new = (new ℓ ≡ true) × ((i : ℕ) → i ≢ ℓ → new i ≡ old i)

-- What an access does to the data bytes.
abbrev pub Accessed : Access → (ℕ → Option ℕ) → (ℕ → Option ℕ) → Type 0
Accessed no_access old new = (x : ℕ) → new x ≡ old x
Accessed (read a b) old new = (old a ≡ Some b) × ((x : ℕ) → new x ≡ old x)
Accessed (write a b) old new = (new a ≡ Some b) × ((x : ℕ) → x ≢ a → new x ≡ old x)

-- How the last of these cycles closed; c closed before them.
abbrev pub last : Closing → List Closing → Closing
last c [] = c
last c (d ∷ ds) = last d ds

-- How the one before the last closed, which is c if there is only one.
abbrev pub before_last : Closing → List Closing → Closing
before_last c [] = c
before_last c (d ∷ []) = c
before_last c (d ∷ (e ∷ es)) = before_last d (e ∷ es)

-- P holds of each of these cycles.
abbrev pub Every : (Closing → Type 0) → List Closing → Type 0
Every P [] = Unit {0}
Every P (c ∷ cs) = P c × Every P cs

-- An accepted step, and what is seen of the state before and after it. The highest level is ℓ, no instruction has more than M cycles,
-- and none that does not poll has more than m.
pub record StepLaw (ℓ M m : ℕ) (old : View) (x : Step) (new : View) : Type 0 where
  -- the accepted request is called, and nothing else is
  pub calls : called x.kind ≡ old.pending
  pub some_cycle : 0 < length x.cycles
  pub lasts : length x.cycles ≤ most_cycles M m x.kind
  -- the marks change before the cycles, and the state after the step is as its last cycle closed
  pub marks : Marked x.kind old.shown.serving new.shown.serving
  pub steady : Every (λ c. c.serving ≡ new.shown.serving) x.cycles
  pub closes : new.shown ≡ last old.shown x.cycles
  -- the poll accepts a request at the highest level if one was there at the end of the cycle before, and that level is not in service
  pub polled : polls x.kind ≡ true → (s : ℕ) → Asks ℓ s (before_last old.shown x.cycles) → new.shown.serving ℓ ≡ false → new.pending ≡ Some ℓ
  pub unpolled : polls x.kind ≡ false → new.pending ≡ None
  pub accesses : Accessed x.access old.memory new.memory

-- What every accepted step and every reset of a machine has to show. Sound is whatever holds of every state that can be reached.
pub record MachineLaw {W : Type 0} (mc : Machine W) (view : W → View) (ℓ M m : ℕ) (Sound : W → Type 0) : Type 0 where
  pub in_order : m ≤ M
  pub steps : (w : W) (x : Step) (v : W) → Sound w → mc.stepped w ≡ accepted x v → StepLaw ℓ M m (view w) x (view v)
  pub step_sound : (w : W) (x : Step) (v : W) → Sound w → mc.stepped w ≡ accepted x v → Sound v
  pub reset_sound : (w : W) → Sound w → Sound (mc.restarted w)
  pub reset_memory : (w : W) (a : ℕ) → (view (mc.restarted w)).memory a ≡ (view w).memory a
  -- a request is accepted only while no service of its level is in progress
  pub free : (w : W) → Sound w → (i : ℕ) → (view w).pending ≡ Some i → (view w).shown.serving i ≡ false

-- The promise of every history of a machine: from any state in which Start holds, after every list of calls.
abbrev pub Kept : {W : Type 0} → Machine W → (W → View) → ℕ → ℕ → ℕ → (W → Type 0) → Type 0
Kept {W} mc view ℓ M m Start = (w : W) → Start w → (calls : List Call) → Promise ℓ (limit M m) (view w).memory (history mc w calls)
