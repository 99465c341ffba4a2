-- The run of the law is the run of the contracts.
use Rattle.std.proofs.Common.{◌≡◌, ℕ, zero, suc, ◌+◌, Bool, true, false, cond, eqb, ltb, List, [], ◌∷◌, length, drop, is_some, Some, None, Ok, Err, Option, Result, refl, ap, ◌∙◌, subst, arith, length-drop}
use lib.Dec.{eqb-suc-zero}
use Rattle.std.proofs.lemmas.Bool.{eq-eqb}
use Rattle.outcome.specs.Outcome.{kept}
use Rattle.logs.specs.Log.{Entries, entered}
use Rattle.records.specs.declared.port_writes.PortRecord.{PortRecord}
use Rattle.boards.specs.Board.{Pins}
use Rattle.core51.specs.declared.fault.Fault.{Fault}
use Rattle.execute51.specs.declared.told.PortWrite.{PortWrite}
use Rattle.step51.specs.World.{World}
use Rattle.step51.specs.Step.{Done, step_of}
use Rattle.step51.specs.Run.{Session, session, noted, stepped, is_full, turn_of, go_on, run_from, run_of}
use Rattle.history.specs.Machine.{Outcome, refused, accepted, Made, follow, done, ran}
use Rattle.history51.specs.Life.{living}
use Rattle.history51.specs.Agrees.{Agree, RunLives}
use Rattle.history51.proofs.Agrees.{step_lives}

-- the free places of a log
room_at : (n k : ℕ) → n ≡ suc k → eqb n 0 ≡ false
room_at n k e = rw e (eqb-suc-zero k)

one_less : {R : Type 0} (places : List R) (p : ℕ) → length places ≡ suc p → length (drop 1 places) ≡ p
one_less places p e = simp length-drop (omega arith)

-- a port write takes a place of its log
noted_room : (i : ℕ) (o : Option PortWrite) (l : Entries PortRecord) (p : ℕ) → length l.free ≡ suc p → length (noted i o l).free ≡ cond (is_some o) p (suc p)
noted_room i None l p e = e
noted_room i (Some w) l p e = rw (room_at (length l.free) p e) (one_less l.free p e)

module _ {S : Type 0} (next : Pins S → Pins S) where
  -- a run that has made i steps before, and the run of the law
  record Same (i : ℕ) (r : (ℕ × ℕ) × Session S) (l : Made (World S)) : Type 0 where
    state : r.1.at ≡ l.state
    steps : r.0.0 ≡ i + length l.events

  abbrev law_run : ℕ → ℕ → ℕ → World S → Made (World S)
  law_run n t p w = ran (living next) n t p w

  -- a turn before which a log is full, and one with room in both
  stops : (n i : ℕ) (s : Session S) → is_full s ≡ true → Same i (run_from next (suc n) i s) (done s.at)
  unfolding turn_of
  stops n i s e = rw e (record { state = refl; steps = omega arith })

  goes : (n i : ℕ) (s : Session S) (l : Made (World S)) → is_full s ≡ false → Same i (go_on (run_from next n) i s (stepped i s (step_of next s.at))) l
      → Same i (run_from next (suc n) i s) l
  unfolding turn_of
  goes n i s l e h = rw e h

  abbrev Runs : ℕ → Type 0
  Runs n = (i : ℕ) (s : Session S) (t p : ℕ) → length s.traces.free ≡ t → length s.ports.free ≡ p → Same i (run_from next n i s) (law_run n t p s.at)

  module _ (n : ℕ) (more : Runs n) (i : ℕ) (s : Session S) (t p : ℕ) (e : length s.traces.free ≡ suc t) (f : length s.ports.free ≡ suc p) where
    turned : (o : Outcome (World S)) (r : Result (Done × World S) Fault) → Agree s.at o (kept s.at r).0 (kept s.at r).1
        → Same i (go_on (run_from next n) i s (stepped i s r)) (follow s.at o (λ x v. law_run n t (cond x.port p (suc p)) v))
    turned refused (Ok y) h = absurd h
    turned refused (Err d) h = record { state = refl; steps = omega arith }
    turned (accepted x v) (Err d) h = absurd h
    turned (accepted x v) (Ok y) h =
        let z : Session S = session y.1 (entered s.traces (y.0.0 ∷ [])) (noted i y.0.1 s.ports) in
        let q : ℕ = cond x.port p (suc p) in
        let room : length z.ports.free ≡ q = noted_room i y.0.1 s.ports p f ∙ ap (λ (b : Bool). cond b p (suc p)) h.port in
        let k : Same (i + 1) (run_from next n (i + 1) z) (law_run n t q v) =
        subst (λ (u : World S). Same (i + 1) (run_from next n (i + 1) z) (law_run n t q u)) h.state
        (more (i + 1) z t q (one_less s.traces.free t e) room) in
        let c : (run_from next n (i + 1) z).0.0 ≡ i + 1 + length (law_run n t q v).events = k.steps in
        record { state = k.state; steps = omega arith }

  runs : (n : ℕ) → Runs n
  runs zero i s t p e f = record { state = refl; steps = omega arith }
  runs (suc n) i s zero p e f = stops n i s (rw (eq-eqb (length s.traces.free) 0 e) refl)
  runs (suc n) i s (suc t) zero e f = stops n i s (rw (room_at (length s.traces.free) t e, eq-eqb (length s.ports.free) 0 f) refl)
  runs (suc n) i s (suc t) (suc p) e f =
      goes n i s (law_run (suc n) (suc t) (suc p) s.at) (rw (room_at (length s.traces.free) t e, room_at (length s.ports.free) p f) refl)
      (turned n (runs n) i s t p e f ((living next).stepped s.at) (step_of next s.at) (step_lives next s.at))

  asked_run : (s : Session S) (n : ℕ) (b : Bool) → Same 0 (cond b ((0, 6), s) (run_from next n 0 s))
      (law_run (cond b 0 n) (length s.traces.free) (length s.ports.free) s.at)
  asked_run s n true = record { state = refl; steps = omega arith }
  asked_run s n false = runs n 0 s (length s.traces.free) (length s.ports.free) refl refl

  pub run_lives : (s : Session S) (n : ℕ) → RunLives next s n (run_of next n s)
  unfolding run_of
  run_lives s n =
      let k = asked_run s n (ltb 65535 n) in
      record { state = k.state; steps = (let c = k.steps in omega arith) }
