-- A machine whose step changes the state once and then runs machine cycles, and what it has to show of each part.
use Rattle.std.specs.Prelude.{◌≡◌, ℕ, zero, suc, ◌-◌, ◌<◌, ◌≤◌, Bool, true, false, List, [], ◌∷◌, Some, None, Option}
use Rattle.history.specs.Events.{Kind, polls, Closing, Access}
use Rattle.history.specs.Machine.{Outcome, refused, accepted, Machine}
use Rattle.history.specs.Laws.{View, called, most_cycles, Marked, Accessed}

-- What a step does before its machine cycles: it is refused, or it has a kind, a number of cycles, an access, tells whether it wrote
-- a port, and leaves a changed state.
pub data Decided (W : Type 0) : Type 0 where
  refuses : Decided W
  does : Kind → ℕ → Access → Bool → W → Decided W

-- The parts of a machine: its reset, what a step does before its cycles, the poll, the rest of a machine cycle, what a step does after
-- its cycles, and what the laws see of a state.
pub record Parts (W : Type 0) : Type 0 where
  pub restarted : W → W
  pub decide : W → Decided W
  pub poll : W → W
  pub tick : W → W
  pub settle : W → W
  pub view : W → View

module _ {W : Type 0} (c : Parts W) where
  -- Cycles without a poll.
  abbrev pub silent : ℕ → W → W
  silent zero w = w
  silent (suc n) w = silent n (c.tick w)

  -- A step's last cycle, with the poll if p.
  abbrev pub last_cycle : Bool → W → W
  last_cycle true w = c.tick (c.poll w)
  last_cycle false w = c.tick w

  -- The ends of n cycles and then a last one.
  abbrev pub closings : ℕ → Bool → W → List Closing
  closings zero p w = (c.view (last_cycle p w)).shown ∷ []
  closings (suc n) p w = (c.view (c.tick w)).shown ∷ closings n p (c.tick w)

  -- The cycles of a step, at least one, and what follows them.
  abbrev pub outcome : Decided W → Outcome W
  outcome refuses = refused
  outcome (does k n a p w) =
      accepted (record { kind = k; cycles = closings (n - 1) (polls k) w; access = a; port = p }) (c.settle (last_cycle (polls k) (silent (n - 1) w)))

  -- The machine that these parts make.
  abbrev pub machine : Machine W
  machine = record { restarted = c.restarted; stepped = λ w. outcome (c.decide w) }

-- Nothing is accepted and nothing enabled, as in a new machine and after a reset.
pub record Quiet (x : View) : Type 0 where
  pub no_request : x.pending ≡ None
  pub disabled : (s : ℕ) → x.shown.enabled s ≡ false

-- What a step of kind k with n cycles and the access a does before its cycles.
pub record ChangeLaw (M m : ℕ) (k : Kind) (n : ℕ) (a : Access) (old new : View) : Type 0 where
  -- the accepted request is called, and nothing else is; it is used up
  pub calls : called k ≡ old.pending
  pub uses_up : new.pending ≡ None
  pub some_cycle : 0 < n
  pub lasts : n ≤ most_cycles M m k
  -- the sample stays, and a step that polls leaves IE and IP
  pub same_sample : new.sampled ≡ old.sampled
  pub same_enabled : polls k ≡ true → new.shown.enabled ≡ old.shown.enabled
  pub same_level : polls k ≡ true → new.shown.level ≡ old.shown.level
  pub marks : Marked k old.shown.serving new.shown.serving
  pub accesses : Accessed a old.memory new.memory

-- The accepted request, the marks and the data bytes.
abbrev pub inside : View → Option ℕ × (ℕ → Bool) × (ℕ → Option ℕ)
inside x = (x.pending, x.shown.serving, x.memory)

-- A machine cycle besides its poll leaves these three, and samples what it leaves held.
pub record TickLaw (old new : View) : Type 0 where
  pub same_inside : inside new ≡ inside old
  pub samples : (s : ℕ) → new.shown.held s ≡ true → new.sampled s ≡ true

-- A poll, where ℓ is the highest level, leaves the marks and the data bytes. It accepts a request of that level if one is sampled and
-- enabled and no such service is in progress, and it accepts none whose level is in service.
pub record PollLaw (ℓ : ℕ) (old new : View) : Type 0 where
  pub same_marks : new.shown.serving ≡ old.shown.serving
  pub same_memory : new.memory ≡ old.memory
  pub accepts : (s : ℕ) → old.sampled s ≡ true → old.shown.enabled s ≡ true → old.shown.level s ≡ ℓ → old.shown.serving ℓ ≡ false → new.pending ≡ Some ℓ
  pub bars : (i : ℕ) → new.pending ≡ Some i → old.shown.serving i ≡ false

-- What a step that is not refused does before its cycles.
abbrev pub Changes : {W : Type 0} → ℕ → ℕ → (W → View) → W → Decided W → Type 0
Changes M m view w refuses = Unit {0}
Changes M m view w (does k n a p v) = ChangeLaw M m k n a (view w) (view v)

-- All that the parts of a machine have to show.
pub record PartsLaw {W : Type 0} (c : Parts W) (ℓ M m : ℕ) : Type 0 where
  pub in_order : m ≤ M
  pub reset_quiet : (w : W) → Quiet (c.view (c.restarted w))
  pub reset_memory : (w : W) (a : ℕ) → (c.view (c.restarted w)).memory a ≡ (c.view w).memory a
  pub change_law : (w : W) → Changes M m c.view w (c.decide w)
  pub tick_law : (w : W) → TickLaw (c.view w) (c.view (c.tick w))
  pub poll_law : (w : W) → PollLaw ℓ (c.view w) (c.view (c.poll w))
  pub settle_law : (w : W) → c.view (c.settle w) ≡ c.view w
