-- The small machine keeps the laws, and a request waits on it as long as they let it.
use Rattle.std.specs.Prelude.{◌≡◌, ℕ, zero, suc, ◌+◌, ◌*◌, ◌<◌, ◌≤◌, Bool, true, false, cond, List, [], ◌∷◌, length, is_some, Some, None, Option, ◌==◌, ◌≢◌, refl}
use Rattle.std.proofs.Common.{sym, ap, append-nil, arith}
use Rattle.std.proofs.lemmas.Bool.{cond_both, ne_eqb, eqb-true}
use Rattle.history.specs.declared.small.Small.{Small}
use Rattle.history.specs.Events.{Kind, control, call, Moment, cycle, moments}
use Rattle.history.specs.Machine.{Call, StepOnce, history}
use Rattle.history.specs.Promise.{Waiting, goes_on, in_call, over, unpolled}
use Rattle.history.specs.Laws.{called}
use Rattle.history.specs.Cycles.{machine, Changes, PartsLaw}
use Rattle.history.specs.Poll.{poll_of, level_of}
use Rattle.history.specs.Small.{only, view, polled, small, Attained}
use Rattle.history.specs.Marks.{contra, some_none}
use Rattle.history.specs.PollLemmas.{poll_keeps}

only_false : (i : ℕ) → only false i ≡ false
only_false i = cond_both (i == 1) false false (λ b. b ≡ false) (λ e. refl) (λ e. refl)

only_one : (b : Bool) (s : ℕ) → only b s ≡ true → (0 < s) × (s ≤ 1)
only_one b s =
    cond_both (s == 1) b false (λ x. x ≡ true → (0 < s) × (s ≤ 1)) (λ e f. let g = eqb-true s 1 e in (omega arith, omega arith)) (λ e f. contra f refl)

the_level : (o : Option ℕ) → cond {A = Option ℕ} (is_some o) (Some 1) None ≡ level_of (λ s. 1) o
the_level None = refl
the_level (Some s) = refl

module _ {M m : ℕ} (long : 4 ≤ M) (short : 2 ≤ m) (in_order : m ≤ M) where
  change : (accepted : Bool) (controls until : ℕ) (sample enabled serving : Bool) →
      let w : Small = record { controls = controls; until = until; sample = sample; enabled = enabled; accepted = accepted; serving = serving } in
      Changes M m view w (small.decide w)
  change true n u s e g = record {
    calls = refl;
    uses_up = refl;
    some_cycle = omega arith;
    lasts = omega arith;
    same_sample = refl;
    same_enabled = λ p. refl;
    same_level = λ p. refl;
    marks = (refl, λ i h. rw (ne_eqb i 1 h) refl);
    accesses = λ x. refl;
  }
  change false zero u s e g = record {
    calls = refl;
    uses_up = refl;
    some_cycle = omega arith;
    lasts = omega arith;
    same_sample = refl;
    same_enabled = λ p. refl;
    same_level = λ p. refl;
    marks = λ i. refl;
    accesses = λ x. refl;
  }
  change false (suc n) u s e g = record {
    calls = refl;
    uses_up = refl;
    some_cycle = omega arith;
    lasts = omega arith;
    same_sample = refl;
    same_enabled = λ p. contra p refl;
    same_level = λ p. contra p refl;
    marks = λ i. refl;
    accesses = λ x. refl;
  }

  pub small_law : PartsLaw small 1 M m
  small_law = record {
    in_order = in_order;
    reset_quiet = λ w. record { no_request = refl; disabled = only_false };
    reset_memory = λ w a. refl;
    change_law = λ w. change w.accepted w.controls w.until w.sample w.enabled w.serving;
    tick_law = λ w. record { same_inside = refl; samples = λ s h. h };
    poll_law = λ w. poll_keeps 1 1 (view w) (view (polled w)) (the_level (poll_of 1 2 (view w).sampled (view w).shown)) refl refl (only_one w.sample) (λ s. omega arith);
    settle_law = λ w. refl;
  }

-- The first of k + 1 instructions that write IE, and the request is held with the last of its two cycles.
abbrev new : ℕ → Small
new k = record { controls = suc k; until = 2; sample = false; enabled = false; accepted = false; serving = false }

abbrev within : ℕ → Small
within k = record { controls = k; until = 1; sample = false; enabled = true; accepted = false; serving = false }

-- The wait begins with k of them still to come.
abbrev ahead : ℕ → Small
ahead k = record { controls = k; until = 0; sample = true; enabled = true; accepted = false; serving = false }

-- After them come the long instruction and the vector call.
abbrev steps : ℕ → List Call
steps zero = StepOnce ∷ (StepOnce ∷ [])
steps (suc k) = StepOnce ∷ steps k

abbrev wait : ℕ → List Moment
wait k = moments (history (machine small) (ahead k) (steps k))

not_call : {k : Kind} → called k ≡ None → k ≢ call 1
not_call e f = some_none (ap called f) e

waits : (k : ℕ) → Waiting 1 1 (wait k)
waits zero = goes_on (not_call refl) (refl, refl, refl) (goes_on (not_call refl) (refl, refl, refl) (goes_on (not_call refl) (refl, refl, refl) (goes_on (not_call refl) (refl, refl, refl) (in_call over))))
waits (suc k) = goes_on (not_call refl) (refl, refl, refl) (goes_on (not_call refl) (refl, refl, refl) (waits k))

wait_length : (k : ℕ) → length (wait k) ≡ 2 * k + 6
wait_length zero = refl
wait_length (suc k) = omega (arith, wait_length k)

wait_unpolled : (k : ℕ) → unpolled (wait k) ≡ k
wait_unpolled zero = refl
wait_unpolled (suc k) = ap suc (wait_unpolled k)

pub attained : (k : ℕ) → Attained small 1 (2 * k + 6) k
attained k = record {
  start = new k;
  quiet = record { no_request = refl; disabled = only_false };
  calls = StepOnce ∷ steps k;
  source = 1;
  kind = control;
  last = true;
  closing = (view (ahead k)).shown;
  before = cycle control false (view (within k)).shown ∷ [];
  during = wait k;
  after = [];
  cut = ap (λ (ms : List Moment). cycle control false (view (within k)).shown ∷ (cycle control true (view (ahead k)).shown ∷ ms)) (sym (append-nil (wait k)));
  asks = (refl, refl, refl);
  idle = refl;
  waiting = waits k;
  cycles = wait_length k;
  ended = wait_unpolled k;
}
