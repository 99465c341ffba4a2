-- A machine that keeps the laws keeps the promise, after every list of calls.
use Rattle.std.proofs.Common.{ℕ}
use Rattle.history.specs.Machine.{Machine}
use Rattle.history.specs.Laws.{View, MachineLaw, Kept}
use Rattle.history.specs.Cycles.{Parts, machine, Quiet, PartsLaw}
use Rattle.history.proofs.Trail.{trail}
use Rattle.history.proofs.Wait.{prompt}
use Rattle.history.proofs.Apart.{apart}
use Rattle.history.proofs.Remember.{remembers}
use Rattle.history.proofs.Cycles.{quiet_sound, machine_law}

pub by_steps : {W : Type 0} (mc : Machine W) (view : W → View) (ℓ M m : ℕ) {Sound : W → Type 0} → MachineLaw mc view ℓ M m Sound → Kept mc view ℓ M m Sound
by_steps mc view ℓ M m law w sw calls =
    let t = trail mc calls w in
    record { prompt = prompt mc view ℓ M m law t sw; apart = apart mc view ℓ M m law t sw; remembers = remembers mc view ℓ M m law t sw }

pub by_cycles : {W : Type 0} (c : Parts W) (ℓ M m : ℕ) → PartsLaw c ℓ M m → Kept (machine c) c.view ℓ M m (λ w. Quiet (c.view w))
by_cycles c ℓ M m law w q calls = by_steps (machine c) c.view ℓ M m (machine_law c ℓ M m law) w (quiet_sound q) calls
