-- A machine cycle samples every request that it leaves held.
use Rattle.std.proofs.Common.{◌≡◌, ℕ, zero, suc, ◌/◌, ◌%◌, ◌^◌, Bool, true, false, not, get_or, refl, ◌∙◌, arith}
use lib.Bits.{bit_and, and_shr, and_le_r, and_mod}
use Rattle.std.proofs.lemmas.Bool.Decides.{nat_tests}
use Rattle.arithmetic.specs.Bits.{bit_of, with_bit_of}
use Rattle.boards.specs.Board.{Pins, level_of}
use Rattle.cycles.specs.declared.sample.Sample.{Sample}
use Rattle.cycles.specs.Timers.{timers_of, falls_of}
use Rattle.cycles.specs.Flags.{external_of, external0_of, external1_of}
use Rattle.cycles.specs.Sample.{sample_of}
use Rattle.cycles.specs.Cycle.{tick_of, ticked_of}
use Rattle.step51.specs.World.{World}
use Rattle.history.specs.Cycles.{TickLaw}
use Rattle.history.specs.Marks.{contra}
use Rattle.history51.specs.View.{among, external_held, held_of, view_of}
use Rattle.history51.specs.Life.{ticked}

-- one set of sources is within another
module _ (x y : Sample) where
  within : (x.external0 ≡ true → y.external0 ≡ true) → (x.timer0 ≡ true → y.timer0 ≡ true) → (x.external1 ≡ true → y.external1 ≡ true) →
      (x.timer1 ≡ true → y.timer1 ≡ true) → (x.serial ≡ true → y.serial ≡ true) → (s : ℕ) → among x s ≡ true → among y s ≡ true
  within a b c d e zero h = h
  within a b c d e (suc zero) h = a h
  within a b c d e (suc (suc zero)) h = b h
  within a b c d e (suc (suc (suc zero))) h = c h
  within a b c d e (suc (suc (suc (suc zero)))) h = d h
  within a b c d e (suc (suc (suc (suc (suc zero))))) h = e h
  within a b c d e (suc (suc (suc (suc (suc (suc n)))))) h = h

-- a bit of TCON after bit 1 or bit 3 was put
bit1_put : (t : ℕ) (b : Bool) → bit_of (with_bit_of t 1 b) 1 ≡ b
bit1_put t true = grind (arith, nat_tests)
bit1_put t false = grind (arith, nat_tests)

bit0_past1 : (t : ℕ) (b : Bool) → bit_of (with_bit_of t 1 b) 0 ≡ bit_of t 0
bit0_past1 t true = grind (arith, nat_tests)
bit0_past1 t false = grind (arith, nat_tests)

bit3_put : (t : ℕ) (b : Bool) → bit_of (with_bit_of t 3 b) 3 ≡ b
bit3_put t true = grind (arith, nat_tests)
bit3_put t false = grind (arith, nat_tests)

bit0_past3 : (t : ℕ) (b : Bool) → bit_of (with_bit_of t 3 b) 0 ≡ bit_of t 0
bit0_past3 t true = grind (arith, nat_tests)
bit0_past3 t false = grind (arith, nat_tests)

bit1_past3 : (t : ℕ) (b : Bool) → bit_of (with_bit_of t 3 b) 1 ≡ bit_of t 1
bit1_past3 t true = grind (arith, nat_tests)
bit1_past3 t false = grind (arith, nat_tests)

bit2_past3 : (t : ℕ) (b : Bool) → bit_of (with_bit_of t 3 b) 2 ≡ bit_of t 2
bit2_past3 t true = grind (arith, nat_tests)
bit2_past3 t false = grind (arith, nat_tests)

-- a pin is low where the level is
low_pin : (i latch level : ℕ) → bit_of level i ≡ false → bit_of (bit_and latch level) i ≡ false
low_pin i latch level e =
    let w = i % 8 in
    let p = and_shr latch level w in
    let q = and_mod (latch / 2 ^ w) (level / 2 ^ w) 1 in
    let r = and_le_r (latch / 2 ^ w % 2) (level / 2 ^ w % 2) in
    grind (arith, nat_tests)

-- where an external request is held after its flag was renewed, the flag is 1
renewed : (activation flag level pin fall : Bool) → (level ≡ false → pin ≡ false) →
    external_held (external_of activation flag (not pin) fall) activation level ≡ true → external_of activation flag (not pin) fall ≡ true
renewed true true level pin fall low h = refl
renewed true false level pin true low h = refl
renewed true false level pin false low h = h
renewed false flag true true fall low h = h
renewed false flag level false fall low h = refl
renewed false flag false true fall low h = contra refl (low refl)

module _ (old latch level tcon scon : ℕ) where
  abbrev pins : ℕ
  pins = bit_and latch level

  -- TCON with IE0 renewed
  abbrev ie0 : Bool
  ie0 = external_of (bit_of tcon 0) (bit_of tcon 1) (not (bit_of pins 2)) (falls_of old pins 2)

  abbrev first : ℕ
  first = external0_of old pins tcon

  -- and then IE1
  abbrev ie1 : Bool
  ie1 = external_of (bit_of first 2) (bit_of first 3) (not (bit_of pins 3)) (falls_of old pins 3)

  abbrev both : ℕ
  both = external1_of old pins first

  flag0 : external_held (bit_of both 1) (bit_of both 0) (bit_of level 2) ≡ true → bit_of both 1 ≡ true
  flag0 h =
      let a = bit1_past3 first ie1 ∙ bit1_put tcon ie0 in
      let b = bit0_past3 first ie1 ∙ bit0_past1 tcon ie0 in
      a ∙ renewed (bit_of tcon 0) (bit_of tcon 1) (bit_of level 2) (bit_of pins 2) (falls_of old pins 2) (low_pin 2 latch level) (cc (a, b, h))

  flag1 : external_held (bit_of both 3) (bit_of both 2) (bit_of level 3) ≡ true → bit_of both 3 ≡ true
  flag1 h =
      let a = bit3_put first ie1 in
      let b = bit2_past3 first ie1 in
      a ∙ renewed (bit_of first 2) (bit_of first 3) (bit_of level 3) (bit_of pins 3) (falls_of old pins 3) (low_pin 3 latch level) (cc (a, b, h))

  flags_sampled : (s : ℕ) → among (held_of both scon level) s ≡ true → among (sample_of both scon) s ≡ true
  flags_sampled = within (held_of both scon level) (sample_of both scon) flag0 (λ h. h) flag1 (λ h. h) (λ h. h)

pub tick_law : {S : Type 0} (next : Pins S → Pins S) (w : World S) → TickLaw (view_of w) (view_of (ticked next w))
unfolding ticked_of tick_of
tick_law next w =
    let level = level_of (next w.pins) 3 in
    let latch = get_or w.state.chip.registers.latches 3 0 in
    let t = timers_of (bit_and latch level) w.state.chip.timers in
    record { same_inside = refl; samples = flags_sampled t.pins latch level t.tcon w.state.chip.serial.scon }
