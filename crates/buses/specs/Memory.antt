-- What a bus means, and what a read and a write do to it.
use Rattle.std.specs.Prelude.{◌≡◌, ℕ, Bool, true, false, cond, is_some, Some, None, Ok, Err, Option, Result, ◌==◌}
use Rattle.outcome.specs.Outcome.{kept, then}
use Rattle.buses.specs.declared.bus.BusFault.{BusFault}
use Rattle.buses.specs.declared.bus.BusFault.TheVariants.{NotFitted, Fenced}

-- At each address: the code byte and the data byte, if fitted, whether the data byte can be written, and whether a write of it shows in the code.
pub record Memory : Type 0 where
  pub code : ℕ → Option ℕ
  pub store : ℕ → Option ℕ
  pub writable : ℕ → Bool
  pub shared : ℕ → Bool

-- the answer of a read: the byte, or not fitted
abbrev pub answer : Option ℕ → Result ℕ BusFault
answer (Some byte) = Ok byte
answer None = Err NotFitted

-- the bytes with one of them replaced
abbrev pub put : (ℕ → Option ℕ) → ℕ → ℕ → ℕ → Option ℕ
put bytes address byte x = cond (x == address) (Some byte) (bytes x)

-- the memory after an accepted write: the data byte is the written one, and a shared code byte too
abbrev pub written : Memory → ℕ → ℕ → Memory
written m address byte = record {
  code = cond (m.shared address) (put m.code address byte) m.code;
  store = put m.store address byte;
  writable = m.writable;
  shared = m.shared;
}

-- whether a write is accepted, by the data byte there and by whether it can be written
abbrev pub accepts : Option ℕ → Bool → Result (Unit {0}) BusFault
accepts None writable = Err NotFitted
accepts (Some byte) false = Err Fenced
accepts (Some byte) true = Ok tt

-- a write: not fitted, fenced, or the memory after it
abbrev pub write_of : Memory → ℕ → ℕ → Result (Unit {0} × Memory) BusFault
write_of m address byte = then (accepts (m.store address) (m.writable address)) (λ accepted. Ok (accepted, written m address byte))

-- a read and then a write of one address: the byte that was there, and the memory after
abbrev pub exchange_of : Memory → ℕ → ℕ → Result (ℕ × Memory) BusFault
exchange_of m address byte = then (answer (m.store address)) (λ before. then (write_of m address byte) (λ x. Ok (before, x.1)))

-- A shared address has a code byte and a data byte, and both are equal.
abbrev pub Lawful : Memory → Type 0
Lawful m = (address : ℕ) → m.shared address ≡ true → (byte : ℕ) × (m.code address ≡ Some byte) × (m.store address ≡ Some byte)

-- Two memories with the same addresses fitted, writable and shared.
pub record SameFitting (before after : Memory) : Type 0 where
  pub code : (address : ℕ) → is_some (after.code address) ≡ is_some (before.code address)
  pub store : (address : ℕ) → is_some (after.store address) ≡ is_some (before.store address)
  pub writable : (address : ℕ) → after.writable address ≡ before.writable address
  pub shared : (address : ℕ) → after.shared address ≡ before.shared address

-- the memory after a write, accepted or refused
abbrev pub after_write : Memory → ℕ → ℕ → Memory
after_write m address byte = (kept m (write_of m address byte)).1

-- Fitted, writable and shared never change, and shared bytes stay equal: so it is after every write to a lawful memory.
pub record FittingStands : Type 0 where
  pub same : (m : Memory) → Lawful m → (address byte : ℕ) → SameFitting m (after_write m address byte)
  pub lawful : (m : Memory) → Lawful m → (address byte : ℕ) → Lawful (after_write m address byte)
