-- The poll accepts a high request that was sampled and is enabled, and none whose level is in service.
use Rattle.std.proofs.Common.{◌≡◌, ℕ, zero, suc, Bool, true, false, cond, is_some, Some, None, Option, refl, arith}
use Rattle.std.proofs.lemmas.Bool.{and_from, and_parts}
use Rattle.records.specs.declared.traces.Source.{Source}
use Rattle.records.specs.declared.traces.Marks.{Marks}
use Rattle.arithmetic.specs.Bits.{bit_of}
use Rattle.cycles.specs.declared.sample.Sample.{Sample}
use Rattle.cycles.specs.declared.poll.Level.{Level}
use Rattle.cycles.specs.declared.poll.Level.TheVariants.{Low, High}
use Rattle.cycles.specs.declared.poll.Request.{Request}
use Rattle.cycles.specs.Sample.{requests, masked_of}
use Rattle.cycles.specs.Poll.{first_of, request, higher, unless_barred, taken_of}
use Rattle.cycles.specs.Vector.{marks_of}
use Rattle.cycles.specs.Cycle.{polled_of}
use Rattle.step51.specs.World.{World}
use Rattle.history.specs.Cycles.{PollLaw}
use Rattle.history.specs.Marks.{contra, some_none}
use Rattle.history51.specs.View.{among, sources_of, pending_of, serving_of, view_of}
use Rattle.history51.specs.Life.{polled}

-- a source that is in a set and has its bit in a byte is in the masked set
among_masked : (x : Sample) (byte s : ℕ) → among x s ≡ true → among (sources_of byte) s ≡ true → among (masked_of x byte) s ≡ true
among_masked x byte zero h k = h
among_masked x byte (suc zero) h k = and_from x.external0 (bit_of byte 0) h k
among_masked x byte (suc (suc zero)) h k = and_from x.timer0 (bit_of byte 1) h k
among_masked x byte (suc (suc (suc zero))) h k = and_from x.external1 (bit_of byte 2) h k
among_masked x byte (suc (suc (suc (suc zero)))) h k = and_from x.timer1 (bit_of byte 3) h k
among_masked x byte (suc (suc (suc (suc (suc zero))))) h k = and_from x.serial (bit_of byte 4) h k
among_masked x byte (suc (suc (suc (suc (suc (suc n)))))) h k = h

nowhere : (s : ℕ) → among (requests false false false false false) s ≡ false
nowhere zero = refl
nowhere (suc zero) = refl
nowhere (suc (suc zero)) = refl
nowhere (suc (suc (suc zero))) = refl
nowhere (suc (suc (suc (suc zero)))) = refl
nowhere (suc (suc (suc (suc (suc zero))))) = refl
nowhere (suc (suc (suc (suc (suc (suc n)))))) = refl

-- where some source is in a set, there is a first one
first_there : (a b c d e : Bool) (s : ℕ) → among (requests a b c d e) s ≡ true → is_some (first_of (requests a b c d e)) ≡ true
first_there true b c d e s h = refl
first_there false true c d e s h = refl
first_there false false true d e s h = refl
first_there false false false true e s h = refl
first_there false false false false true s h = refl
first_there false false false false false s h = contra h (nowhere s)

-- a high request is accepted unless the high level is in service
accepts_high : (high any : Option Source) (m : Marks) → is_some high ≡ true → m.high ≡ false → pending_of (unless_barred m (higher high any)) ≡ Some 1
accepts_high (Some s) any m h k = rw k refl
accepts_high None any m h k = contra h refl

all_enabled : (b : Bool) (o : Option Request) → b ≡ true → pending_of o ≡ Some 1 → pending_of (cond b o None) ≡ Some 1
all_enabled true o e h = h
all_enabled false o e h = contra e refl

at_high : (b : Bool) → ◌≡◌ {A = ℕ} (cond b 1 0) 1 → b ≡ true
at_high true e = refl
at_high false e = absurd (omega arith)

-- no request is accepted whose level is in service
bars_level : (s : Source) (l : Level) (low high : Bool) (i : ℕ)
    → pending_of (unless_barred (marks_of low high) (Some (request s l))) ≡ Some i → serving_of (marks_of low high) i ≡ false
bars_level s Low true high i e = some_none e refl
bars_level s Low false true i e = some_none e refl
bars_level s Low false false i e = let z : 0 ≡ i = cc in rw (← z) refl
bars_level s High low true i e = some_none e refl
bars_level s High low false i e = let z : 1 ≡ i = cc in rw (← z) refl

bars_request : (m : Marks) (o : Option Request) (i : ℕ) → pending_of (unless_barred m o) ≡ Some i → serving_of m i ≡ false
bars_request m None i e = some_none e refl
bars_request m (Some q) i e = bars_level q.source q.level m.low m.high i e

bars_all : (b : Bool) (m : Marks) (o : Option Request) (i : ℕ) → pending_of (cond b (unless_barred m o) None) ≡ Some i → serving_of m i ≡ false
bars_all true m o i e = bars_request m o i e
bars_all false m o i e = some_none e refl

pub poll_law : {S : Type 0} (w : World S) → PollLaw 1 (view_of w) (view_of (polled w))
unfolding polled_of
poll_law w =
    let x = w.state.interrupts.sample in
    let m = w.state.interrupts.marks in
    let ie = w.state.chip.control.ie in
    let ip = w.state.chip.control.ip in
    record {
      same_marks = refl;
      same_memory = refl;
      accepts = λ s a b l d.
          (let on = and_parts (bit_of ie 7) (among (sources_of ie) s) b in
          let y = masked_of (masked_of x ie) ip in
          let asks = among_masked x ie s a on.1 in
          let high = among_masked (masked_of x ie) ip s asks (at_high (among (sources_of ip) s) l) in
          all_enabled (bit_of ie 7) (unless_barred m (taken_of (masked_of x ie) ip)) on.0
          (accepts_high (first_of y) (first_of (masked_of x ie)) m (first_there y.external0 y.timer0 y.external1 y.timer1 y.serial s high) d));
      bars = bars_all (bit_of ie 7) m (taken_of (masked_of x ie) ip);
    }
