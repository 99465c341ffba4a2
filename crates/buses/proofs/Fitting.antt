-- A write changes no address's being fitted, writable or shared, and keeps shared bytes equal.
use Rattle.std.proofs.Common.{◌≡◌, ℕ, Bool, true, false, eqb, Some, None, Ok, Option, refl, rules}
use Rattle.outcome.specs.Outcome.{kept, then}
use Rattle.buses.specs.Memory.{Memory, Lawful, SameFitting, FittingStands, accepts, written}

unchanged : (m : Memory) → SameFitting m m
unchanged m = record { code = λ x. refl; store = λ x. refl; writable = λ x. refl; shared = λ x. refl }

written_same : (m : Memory) → Lawful m → (address byte old : ℕ) → m.store address ≡ Some old → SameFitting m (written m address byte)
written_same m law address byte old e = search rules

-- a shared address after a write there, or elsewhere
lawful_at : (m : Memory) → Lawful m → (address byte x : ℕ) (there : Bool) → eqb x address ≡ there → m.shared x ≡ true
    → (b : ℕ) × ((written m address byte).code x ≡ Some b) × ((written m address byte).store x ≡ Some b)
lawful_at m law address byte x true e h = (byte, search rules, search rules)
lawful_at m law address byte x false e h = let l = law x h in (l.0, search rules, search rules)

written_lawful : (m : Memory) → Lawful m → (address byte : ℕ) → Lawful (written m address byte)
written_lawful m law address byte x h = lawful_at m law address byte x (eqb x address) refl h

-- the three outcomes of a write
same : (m : Memory) → Lawful m → (address byte : ℕ) (o : Option ℕ) (w : Bool) → m.store address ≡ o
    → SameFitting m (kept m (then (accepts o w) (λ u. Ok (u, written m address byte)))).1
same m law address byte None w e = unchanged m
same m law address byte (Some old) false e = unchanged m
same m law address byte (Some old) true e = written_same m law address byte old e

lawful : (m : Memory) → Lawful m → (address byte : ℕ) (o : Option ℕ) (w : Bool)
    → Lawful (kept m (then (accepts o w) (λ u. Ok (u, written m address byte)))).1
lawful m law address byte None w = law
lawful m law address byte (Some old) false = law
lawful m law address byte (Some old) true = written_lawful m law address byte

pub fitting_stands : FittingStands
fitting_stands = record {
  same = λ m law address byte. same m law address byte (m.store address) (m.writable address) refl;
  lawful = λ m law address byte. lawful m law address byte (m.store address) (m.writable address);
}
