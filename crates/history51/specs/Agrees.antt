-- The step and the run of the law are the step and the run of the contracts.
use Rattle.std.specs.Prelude.{◌≡◌, ℕ, cond, ◌≢◌, length, is_some, Ok, Err, Result, nat_lt}
use Rattle.records.specs.declared.traces.Source.{Source}
use Rattle.records.specs.declared.traces.StepKind.{StepKind}
use Rattle.records.specs.declared.traces.StepKind.TheVariants.{Instruction, VectorCall}
use Rattle.records.specs.Trace.{cycles_number}
use Rattle.boards.specs.Board.{Pins}
use Rattle.core51.specs.declared.fault.Fault.{Fault}
use Rattle.step51.specs.World.{World}
use Rattle.step51.specs.Step.{Done}
use Rattle.step51.specs.Run.{Session}
use Rattle.history.specs.Events.{Kind, plain, control, reti, call, Step}
use Rattle.history.specs.Machine.{Outcome, refused, accepted, Run, Made, made}
use Rattle.history51.specs.Life.{living}

-- an instruction other than RETI, which is 32H
abbrev pub Other : StepKind → Type 0
Other k = (op : ℕ) × (k ≡ Instruction op) × (op ≢ 0x32)

-- what the trace record says of a step of each kind
abbrev pub Tells : Kind → StepKind → Type 0
Tells plain k = Other k
Tells control k = Other k
Tells reti k = k ≡ Instruction 0x32
Tells (call ℓ) k = (s : Source) × (k ≡ VectorCall s)

-- The law has the step x and after it the world v; the call answers d and leaves the world u.
pub record Agreed {S : Type 0} (x : Step) (v : World S) (d : Done) (u : World S) : Type 0 where
  pub state : u ≡ v
  pub cycles : cycles_number d.0.cycles ≡ length x.cycles
  pub port : is_some d.1 ≡ x.port
  pub kind : Tells x.kind d.0.kind

-- both accept the step, and agree on it, or both refuse it, and the call leaves the world w as it was
abbrev pub Agree : {S : Type 0} → World S → Outcome (World S) → Result Done Fault → World S → Type 0
Agree w refused (Ok d) u = ⊥
Agree w refused (Err e) u = u ≡ w
Agree w (accepted x v) (Ok d) u = Agreed x v d u
Agree w (accepted x v) (Err e) u = ⊥

-- a step that answers r and leaves the world u is the step of the law
abbrev pub StepLives : {S : Type 0} → (Pins S → Pins S) → World S → Result Done Fault → World S → Type 0
StepLives next w r u = Agree w ((living next).stepped w) r u

-- a run of more than 65,535 steps makes none
abbrev pub asked : ℕ → ℕ
asked n = cond (nat_lt 65535 n) 0 n

-- the run of the law, with the free places of the two logs
abbrev pub lived : {S : Type 0} → (Pins S → Pins S) → ℕ → Session S → Made (World S)
lived next n s = made (living next) (Run (asked n) (length s.traces.free) (length s.ports.free)) s.at

-- a run of n steps that answers and leaves r is the run of the law: as many steps, and the same world after them
pub record RunLives {S : Type 0} (next : Pins S → Pins S) (s : Session S) (n : ℕ) (r : (ℕ × ℕ) × Session S) : Type 0 where
  pub state : r.1.at ≡ (lived next n s).state
  pub steps : r.0.0 ≡ length (lived next n s).events
