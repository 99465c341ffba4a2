-- A run: steps entered in two logs.
use Rattle.std.specs.Prelude.{ℕ, zero, suc, ◌+◌, ◌%◌, Bool, cond, ◌||◌, [], ◌∷◌, Some, None, Ok, Err, Option, Result, nat_lt}
use Rattle.records.specs.declared.traces.TraceRecord.{TraceRecord}
use Rattle.records.specs.declared.port_writes.PortRecord.{PortRecord}
use Rattle.logs.specs.Log.{Entries, full_of, entered}
use Rattle.boards.specs.Board.{Pins}
use Rattle.core51.specs.declared.fault.Fault.{Fault}
use Rattle.execute51.specs.declared.told.PortWrite.{PortWrite}
use Rattle.step51.specs.World.{World}
use Rattle.step51.specs.Step.{Done, step_of}
use Rattle.step51.specs.declared.stop.Stop.{Stop}
use Rattle.step51.specs.declared.stop.Stop.TheVariants.{LogFull, Refused}
use Rattle.step51.specs.Stop.{stop_number}

-- a machine with its two logs
pub record Session (S : Type 0) : Type 0 where
  pub at : World S
  pub traces : Entries TraceRecord
  pub ports : Entries PortRecord

abbrev pub session : {S : Type 0} → World S → Entries TraceRecord → Entries PortRecord → Session S
session w t p = record { at = w; traces = t; ports = p }

-- the port write of step i is entered, if there is one
abbrev pub noted : ℕ → Option PortWrite → Entries PortRecord → Entries PortRecord
noted i None l = l
noted i (Some w) l = cond (full_of l) l (entered l (record { port = w.port; byte = w.byte; step = i % 65536 } ∷ []))

-- step i entered in the logs, or why it is refused
abbrev pub stepped : {S : Type 0} → ℕ → Session S → Result (Done × World S) Fault → Result (Unit × Session S) Stop
stepped i s (Ok x) = Ok (tt, session x.1 (entered s.traces (x.0.0 ∷ [])) (noted i x.0.1 s.ports))
stepped i s (Err e) = Err (Refused e)

-- a log is full
abbrev pub is_full : {S : Type 0} → Session S → Bool
is_full s = full_of s.traces || full_of s.ports

-- step i of a run, or why the run stops before it: a log that is full, or the step's own refusal
abbrev pub turn_steps : {S : Type 0} → (Pins S → Pins S) → ℕ → Session S → Result (Unit × Session S) Stop
turn_steps next i s = cond (is_full s) (Err LogFull) (stepped i s (step_of next s.at))

-- the same under a name that proofs do not look into unless they say so
unfoldable pub turn_of : {S : Type 0} → (Pins S → Pins S) → ℕ → Session S → Result (Unit × Session S) Stop
turn_of next i s = turn_steps next i s

-- after step i the run goes on with the next step, or it stops before step i with nothing changed
abbrev pub go_on : {S : Type 0} → (ℕ → Session S → (ℕ × ℕ) × Session S) → ℕ → Session S → Result (Unit × Session S) Stop → (ℕ × ℕ) × Session S
go_on more i s (Ok x) = more (i + 1) x.1
go_on more i s (Err stop) = ((i, stop_number stop), s)

-- up to n steps more, after i steps
abbrev pub run_from : {S : Type 0} → (Pins S → Pins S) → ℕ → ℕ → Session S → (ℕ × ℕ) × Session S
run_from next zero i s = ((i, 0), s)
run_from next (suc n) i s = go_on (run_from next n) i s (turn_of next i s)

-- the steps made and the number that stopped them, 0 if none; a run above 65,535 makes no step
unfoldable pub run_of : {S : Type 0} → (Pins S → Pins S) → ℕ → Session S → (ℕ × ℕ) × Session S
run_of next n s = cond (nat_lt 65535 n) ((0, 6), s) (run_from next n 0 s)
