-- The machine as the law of whole histories has it, and the promise of its whole life.
use Rattle.std.specs.Prelude.{◌+◌, ◌*◌, cond, List, is_some, Some, None, Ok, Err, Option, Result}
use Rattle.boards.specs.Board.{Pins}
use Rattle.core51.specs.declared.fault.Fault.{Fault}
use Rattle.execute51.specs.declared.external.Access.{Access as ExecutedAccess}
use Rattle.execute51.specs.declared.external.Access.TheVariants.{Read, Write}
use Rattle.cycles.specs.Cycle.{polled_of, run_of}
use Rattle.step51.specs.declared.action.Action.{Action}
use Rattle.step51.specs.declared.action.Action.TheVariants.{Called, Executed}
use Rattle.step51.specs.World.{World, world}
use Rattle.step51.specs.Action.{count_of, port_of}
use Rattle.step51.specs.Step.{begin_of}
use Rattle.step51.specs.Reset.{new_world, reset_of}
use Rattle.history.specs.Events.{Kind, plain, control, reti, call, Access, no_access, read, write}
use Rattle.history.specs.Machine.{Machine, Call, history}
use Rattle.history.specs.Promise.{Promise}
use Rattle.history.specs.Cycles.{Decided, refuses, does, Parts, machine}
use Rattle.history51.specs.View.{level_number, view_of}

-- a vector call at its level, an instruction that polls, RETI, or one that has IE or IP as an operand
abbrev pub kind_of : Action → Kind
kind_of (Called q) = call (level_number q.level)
kind_of (Executed t) = cond t.polls plain (cond t.is_reti reti control)

-- the access of MOVX
abbrev pub as_access : Option ExecutedAccess → Access
as_access None = no_access
as_access (Some (Read address byte)) = read address byte
as_access (Some (Write address byte)) = write address byte

-- only an instruction has one
abbrev pub access_of : Action → Access
access_of (Called q) = no_access
access_of (Executed t) = as_access t.access

-- what a step does before its machine cycles, with its labels
abbrev pub decided : {S : Type 0} → Result (Action × World S) Fault → Decided (World S)
decided (Ok x) = does (kind_of x.0) (count_of x.0) (access_of x.0) (is_some (port_of x.0)) x.1
decided (Err e) = refuses

-- the poll of a step
abbrev pub polled : {S : Type 0} → World S → World S
polled w = world (polled_of w.state) w.memory w.pins

-- a machine cycle besides its poll
abbrev pub ticked : {S : Type 0} → (Pins S → Pins S) → World S → World S
ticked next w = let x = run_of next (w.state, w.pins) in world x.0 w.memory x.1

-- the machine in parts; next is what a tick brings to the board
abbrev pub parts : {S : Type 0} → (Pins S → Pins S) → Parts (World S)
parts next = record {
  restarted = reset_of;
  decide = λ w. decided (begin_of w);
  poll = polled;
  tick = ticked next;
  settle = λ w. w;
  view = view_of;
}

-- the machine of the law, under a name that proofs do not look into unless they say so
unfoldable pub living : {S : Type 0} → (Pins S → Pins S) → Machine (World S)
living next = machine (parts next)

-- From a new core, on any bus and any board, after every list of the law's calls, at each machine cycle: a high request waits at most 2k + 6
-- cycles while k instructions end that do not poll, two vector calls of a level are parted, and MOVX reads what MOVX wrote.
abbrev pub Promised : {S : Type 0} → (Pins S → Pins S) → World S → List Call → Type 0
Promised next start calls = Promise 1 (λ k. 2 * k + 6) start.memory.store (history (living next) (new_world start) calls)
