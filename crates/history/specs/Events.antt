-- What can be seen of a machine: its resets and its accepted steps, cycle by cycle.
use Rattle.std.specs.Prelude.{ℕ, Bool, true, false, List, [], ◌∷◌, ◌++◌}

-- What a step is: an instruction that polls, one that does not because it has IE or IP as an operand, RETI, which does not poll either,
-- or the vector call of a request at a level. Levels are numbers, the lowest 0.
pub data Kind : Type 0 where
  plain : Kind
  control : Kind
  reti : Kind
  call : ℕ → Kind

-- Whether a step of this kind polls in its last cycle.
abbrev pub polls : Kind → Bool
polls plain = true
polls control = false
polls reti = false
polls (call ℓ) = true

-- The end of a machine cycle: of each source, whether its request is held, whether it is enabled, and at which level;
-- of each level, whether a service is in progress.
pub record Closing : Type 0 where
  pub held : ℕ → Bool
  pub enabled : ℕ → Bool
  pub level : ℕ → ℕ
  pub serving : ℕ → Bool

-- The MOVX access of a step, if it has one: the address that the bus gets, and the byte read or written.
pub data Access : Type 0 where
  no_access : Access
  read : ℕ → ℕ → Access
  write : ℕ → ℕ → Access

-- An accepted step: its kind, the ends of its machine cycles in their order, its access, and whether it wrote a port.
pub record Step : Type 0 where
  pub kind : Kind
  pub cycles : List Closing
  pub access : Access
  pub port : Bool

-- A history is a list of resets and accepted steps, the oldest first.
pub data Event : Type 0 where
  reset : Event
  step : Step → Event

-- The same history by machine cycles: the kind of the cycle's step, whether it is that step's last cycle, and how it closed.
pub data Moment : Type 0 where
  restart : Moment
  cycle : Kind → Bool → Closing → Moment

-- The cycles of one step.
abbrev pub step_moments : Kind → List Closing → List Moment
step_moments k [] = []
step_moments k (c ∷ []) = cycle k true c ∷ []
step_moments k (c ∷ (d ∷ cs)) = cycle k false c ∷ step_moments k (d ∷ cs)

-- The resets and cycles of a history.
abbrev pub moments : List Event → List Moment
moments [] = []
moments (reset ∷ h) = restart ∷ moments h
moments (step x ∷ h) = step_moments x.kind x.cycles ++ moments h
