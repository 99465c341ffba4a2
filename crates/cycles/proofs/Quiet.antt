-- Cycles in which nothing happens.
use Rattle.std.proofs.Common.{◌≡◌, ℕ, ◌+◌, ◌-◌, ◌*◌, ◌%◌, Bool, true, false, not, ◌&&◌, ◌||◌, eqb, refl, ap, ◌∙◌, arith}
use Rattle.std.proofs.lemmas.Bool.Decides.{nat_tests}
use Rattle.std.proofs.lemmas.Bool.{and_left, and_right, cond-false}
use Rattle.arithmetic.specs.Flags.{as_bit}
use Rattle.arithmetic.specs.Bits.{weight, bit_of, with_bit_of}
use Rattle.core51.specs.declared.state.Timers.{Timers}
use Rattle.core51.specs.State.{with_tcon}
use Rattle.cycles.specs.declared.sample.Sample.{Sample}
use Rattle.cycles.specs.Timers.{runs_of, bits1, is_split, timer0_of, upper0_of, timer1_of, timers_of}
use Rattle.cycles.specs.declared.flags.ExternalBits.{ExternalBits}
use Rattle.cycles.specs.Flags.{external_bits0, external_bits1, external_of, external_tcon, external1_of, flags_of}
use Rattle.cycles.specs.Sample.{sample_of, requests}
use Rattle.cycles.specs.State.{with_pins}
use Rattle.cycles.specs.Cycle.{is_quiet, tick_of}

-- stopped timers stay
timer0_stays : (pins : ℕ) (t : Timers) → bit_of t.tcon 4 ≡ false → timer0_of pins t ≡ t
timer0_stays pins t run = cond-false _ _ _ (and_left _ _ (and_left _ _ run))

upper0_stays : (t : Timers) → is_split t.tmod ≡ false → upper0_of t ≡ t
upper0_stays t split = cond-false _ _ _ (and_left _ _ split)

timer1_stays : (pins : ℕ) (t : Timers) → is_split t.tmod ≡ false → bit_of t.tcon 6 ≡ false → timer1_of pins t ≡ t
timer1_stays pins t split run =
    cond-false _ _ _ (and_left _ _ (and_right _ _ (ap (λ b. b || runs_of bits1 pins t) split ∙ and_left _ _ run)))

stopped : (pins : ℕ) (t : Timers) → bit_of t.tcon 4 ≡ false → bit_of t.tcon 6 ≡ false → is_split t.tmod ≡ false → timers_of pins t ≡ t
stopped pins t run0 run1 split =
    ap (λ x. timer1_of pins (upper0_of x)) (timer0_stays pins t run0) ∙ ap (timer1_of pins) (upper0_stays t split) ∙ timer1_stays pins t split run1

-- a flag that is down at a high pin stays down
stays_down : (activation fell : Bool) → external_of activation false (not true) (fell && not true) ≡ false
stays_down true true = refl
stays_down true false = refl
stays_down false fell = refl

down : (activation flag high fell : Bool) → flag ≡ false → high ≡ true → external_of activation flag (not high) (fell && not high) ≡ false
down activation flag high fell f h =
    ap (λ x. external_of activation x (not high) (fell && not high)) f ∙ ap (λ x. external_of activation false (not x) (fell && not x)) h ∙ stays_down activation fell

cleared : (tcon i : ℕ) → bit_of tcon i ≡ false → with_bit_of tcon i false ≡ tcon
cleared tcon i h = ap (λ b. tcon - weight i * as_bit b + weight i * as_bit false) h ∙ omega arith

external_stays : (b : ExternalBits) (old new tcon : ℕ) → bit_of tcon b.flag ≡ false → bit_of new b.pin ≡ true → external_tcon b old new tcon ≡ tcon
external_stays b old new tcon flag high =
    ap (with_bit_of tcon b.flag) (down (bit_of tcon b.activation) (bit_of tcon b.flag) (bit_of new b.pin) (bit_of old b.pin) flag high) ∙ cleared tcon b.flag flag

calm : (pins : ℕ) (t : Timers) → bit_of t.tcon 1 ≡ false → bit_of t.tcon 3 ≡ false → bit_of pins 2 ≡ true → bit_of pins 3 ≡ true → flags_of pins t ≡ t
calm pins t e0 e1 p0 p1 =
    ap (λ x. with_tcon t (external1_of t.pins pins x)) (external_stays external_bits0 t.pins pins t.tcon e0 p0) ∙
    ap (with_tcon t) (external_stays external_bits1 t.pins pins t.tcon e1 p1)

-- nothing happens but that the pins are kept
pub quiet_tick : (scon pins : ℕ) (t : Timers) → is_quiet scon pins t ≡ true → tick_of pins t ≡ with_pins t pins
unfolding tick_of
quiet_tick scon pins t h =
    let e0 : bit_of t.tcon 1 ≡ false = grind (arith, nat_tests) in
    let e1 : bit_of t.tcon 3 ≡ false = grind (arith, nat_tests) in
    let r0 : bit_of t.tcon 4 ≡ false = grind (arith, nat_tests) in
    let r1 : bit_of t.tcon 6 ≡ false = grind (arith, nat_tests) in
    let m : eqb (t.tmod % 4) 3 ≡ false = grind (arith, nat_tests) in
    let p0 : bit_of pins 2 ≡ true = grind (arith, nat_tests) in
    let p1 : bit_of pins 3 ≡ true = grind (arith, nat_tests) in
    ap (λ x. with_pins x pins) (ap (flags_of pins) (stopped pins t r0 r1 m) ∙ calm pins t e0 e1 p0 p1)

pub quiet_sample : (scon pins : ℕ) (t : Timers) → is_quiet scon pins t ≡ true → sample_of t.tcon scon ≡ requests false false false false false
quiet_sample scon pins t h =
    let e0 : bit_of t.tcon 1 ≡ false = grind (arith, nat_tests) in
    let e1 : bit_of t.tcon 3 ≡ false = grind (arith, nat_tests) in
    let f0 : bit_of t.tcon 5 ≡ false = grind (arith, nat_tests) in
    let f1 : bit_of t.tcon 7 ≡ false = grind (arith, nat_tests) in
    let s0 : bit_of scon 0 ≡ false = grind (arith, nat_tests) in
    let s1 : bit_of scon 1 ≡ false = grind (arith, nat_tests) in
    simp (e0, e1, f0, f1, s0, s1)

none : (a b c d e : Bool) → a ≡ false → b ≡ false → c ≡ false → d ≡ false → e ≡ false → requests false false false false false ≡ requests a b c d e
none a b c d e f g h i j = cc

pub no_requests : (s : Sample) → s.external0 ≡ false → s.timer0 ≡ false → s.external1 ≡ false → s.timer1 ≡ false → s.serial ≡ false →
    requests false false false false false ≡ s
no_requests s = none s.external0 s.timer0 s.external1 s.timer1 s.serial
