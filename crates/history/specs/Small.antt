-- A small machine on which a request waits as long as the law lets it.
use Rattle.std.specs.Prelude.{◌≡◌, ℕ, zero, suc, ◌-◌, Bool, true, false, cond, List, ◌∷◌, ◌++◌, length, is_some, Some, None, ◌==◌}
use Rattle.history.specs.declared.small.Small.{Small}
use Rattle.history.specs.declared.small.Work.{Work}
use Rattle.history.specs.declared.small.Work.TheVariants.{Call as Calls, Control, Long}
use Rattle.history.specs.Events.{Kind, plain, control, call, Closing, no_access, Moment, cycle, moments}
use Rattle.history.specs.Machine.{Outcome, refused, accepted, Call, history}
use Rattle.history.specs.Promise.{Asks, Waiting, unpolled, limit}
use Rattle.history.specs.Laws.{View}
use Rattle.history.specs.Poll.{poll_of}
use Rattle.history.specs.Cycles.{does, Parts, machine, Quiet, PartsLaw}

-- A reset leaves the program and the line.
abbrev pub restarted : Small → Small
restarted w = record w { sample = false; enabled = false; accepted = false; serving = false }

-- The next instruction: one that writes IE, if one is left, or a long one.
abbrev pub instruction : ℕ → Small → Work × Small
instruction zero w = (Long, w)
instruction (suc n) w = (Control, record w { controls = n; enabled = true; accepted = false })

-- What a step does before its cycles: the accepted request is called, which sets its mark, or an instruction is made.
abbrev pub begun : Small → Work × Small
begun w = cond w.accepted
    (Calls, record w { accepted = false; serving = true })
    (instruction w.controls w)

-- The one source is number 1, and it is at level 1.
abbrev pub only : Bool → ℕ → Bool
only b i = cond (i == 1) b false

-- What the laws see of the small machine.
abbrev pub view : Small → View
view w = record {
  shown = record { held = only (w.until == 0); enabled = only w.enabled; level = λ s. 1; serving = only w.serving };
  sampled = only w.sample;
  pending = cond w.accepted (Some 1) None;
  memory = λ a. None;
}

-- The poll, with one source and the levels 0 and 1.
abbrev pub polled : Small → Small
polled w = record w { accepted = is_some (poll_of 1 2 (view w).sampled (view w).shown) }

-- A cycle brings the line nearer, and samples it.
abbrev pub ticked : Small → Small
ticked w = record w { until = w.until - 1; sample = (w.until - 1 == 0) }

-- The kind of a step.
abbrev pub kind_of : Work → Kind
kind_of Calls = call 1
kind_of Control = control
kind_of Long = plain

-- Its cycles.
abbrev pub cycles_of : Work → ℕ
cycles_of Calls = 2
cycles_of Control = 2
cycles_of Long = 4

-- The small machine.
abbrev pub small : Parts Small
small = record {
  restarted = restarted;
  decide = λ w. does (kind_of (begun w).0) (cycles_of (begun w).0) no_access false (begun w).1;
  poll = polled;
  tick = ticked;
  settle = λ w. w;
  view = view;
}

-- How many cycles a step had, and the state after it.
abbrev pub cycles_and_state : Small → Outcome Small → ℕ × Small
cycles_and_state w refused = (0, w)
cycles_and_state w (accepted x v) = (length x.cycles, v)

-- A wait of n cycles at level ℓ, in which k instructions that do not poll end, in a history of this machine.
pub record Attained {W : Type 0} (c : Parts W) (ℓ n k : ℕ) : Type 0 where
  pub start : W
  pub quiet : Quiet (c.view start)
  pub calls : List Call
  pub source : ℕ
  pub kind : Kind
  pub last : Bool
  pub closing : Closing
  pub before : List Moment
  pub during : List Moment
  pub after : List Moment
  pub cut : moments (history (machine c) start calls) ≡ before ++ (cycle kind last closing ∷ (during ++ after))
  pub asks : Asks ℓ source closing
  pub idle : closing.serving ℓ ≡ false
  pub waiting : Waiting ℓ source during
  pub cycles : length during ≡ n
  pub ended : unpolled during ≡ k

-- The limit is the best possible for instructions of at most M cycles, and of at most m if they do not poll: this machine keeps the
-- laws, and for every k a wait of so many cycles occurs on it in which k instructions that do not poll end.
pub record Best {W : Type 0} (c : Parts W) (ℓ M m : ℕ) : Type 0 where
  pub lawful : PartsLaw c ℓ M m
  pub attained : (k : ℕ) → Attained c ℓ (limit M m k) k
