-- One step of a run, and the end of a run.
use Rattle.std.proofs.Common.{◌≡◌, ℕ, suc, ◌+◌, ◌-◌, ◌<◌, ◌≤◌, Ok, Err, sym, ap, ◌∙◌, arith}
use Rattle.std.proofs.lemmas.Bool.{lt-ltb, le-ltb}
use Rattle.outcome.specs.Outcome.{kept}
use Rattle.outcome.proofs.Kept.{kept_ok, kept_err}
use Rattle.boards.specs.Board.{Pins}
use Rattle.step51.specs.declared.stop.Stop.{Stop}
use Rattle.step51.specs.Stop.{stop_number}
use Rattle.step51.specs.Run.{Session, turn_of, go_on, run_from, run_of}

module _ {S : Type 0} (next : Pins S → Pins S) where
  -- a step that is made, and one before which the run stops
  pub run_on : (n i : ℕ) (s t : Session S) → i < n → (Ok tt, t) ≡ kept s (turn_of next i s) → run_from next (n - i) i s ≡ run_from next (n - (i + 1)) (i + 1) t
  run_on n i s t h e =
      let m : n - i ≡ suc (n - (i + 1)) = omega arith in
      ap (λ k. run_from next k i s) m ∙ ap (go_on (run_from next (n - (i + 1))) i s) (kept_ok s t tt (turn_of next i s) e)

  pub run_stop : (n i k : ℕ) (s t : Session S) (x : Stop) → i < n → k ≡ stop_number x → (Err x, t) ≡ kept s (turn_of next i s) → run_from next (n - i) i s ≡ ((i, k), t)
  run_stop n i k s t x h f e =
      let m : n - i ≡ suc (n - (i + 1)) = omega arith in
      let d = kept_err s t x (turn_of next i s) e in
      ap (λ k. run_from next k i s) m ∙ ap (go_on (run_from next (n - (i + 1))) i s) d.0 ∙ ap (λ y. ((i, y), s)) (sym f) ∙ ap (λ y. ((i, k), y)) (sym d.1)

  pub run_end : (n i : ℕ) (s : Session S) → i ≤ n → n ≤ i → run_from next (n - i) i s ≡ ((n, 0), s)
  run_end n i s h k =
      let m : n - i ≡ 0 = omega arith in
      let l : i ≡ n = omega arith in
      rw (m, l)

  pub run_above : (n k : ℕ) (s : Session S) → 65535 < n → k ≡ 6 → run_of next n s ≡ ((0, k), s)
  unfolding run_of
  run_above n k s h e = rw (lt-ltb 65535 n h, e)

  pub run_within : (n : ℕ) (s : Session S) → n ≤ 65535 → run_of next n s ≡ run_from next n 0 s
  unfolding run_of
  run_within n s h = rw (le-ltb 65535 n h)
