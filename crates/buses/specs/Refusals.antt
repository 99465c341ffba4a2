-- What the builders of buses answer, and what they refuse.
use Rattle.std.specs.Prelude.{ℕ, Bool, cond, ◌&&◌, List, length, Ok, Err, Result, nat_le, nat_lt}
use Rattle.std.specs.Borrow.{Bor, MutBor}
use Rattle.buses.specs.declared.refusal.Refusal.{Refusal}
use Rattle.buses.specs.declared.refusal.Refusal.TheVariants.{MemorySize, FirstAboveLast}
use Rattle.buses.specs.declared.refusal.Rejected.{Rejected}
use Rattle.buses.specs.Memory.{Memory}
use Rattle.buses.specs.Buses.{split, combined}
use Rattle.buses.specs.Layers.{fenced}

-- the number of every refusal
abbrev pub number_of : Refusal → ℕ
number_of MemorySize = 1
number_of FirstAboveLast = 2

-- what a builder made, by its meaning; a refusal as it is
abbrev pub meaning_of : {S E : Type 0} → (S → Memory) → Result S E → Result Memory E
meaning_of memory (Ok bus) = Ok (memory bus)
meaning_of memory (Err e) = Err e

-- a refusal gives back what the builder was given, as it was
abbrev pub rejected : {T : Type 0} → T → Refusal → Result Memory (Rejected T)
rejected given refusal = Err (record { given = given; refusal = refusal })

-- a memory of 1 to 65,536 bytes
abbrev pub has_size : List ℕ → Bool
has_size bytes = nat_lt 0 (length bytes) && nat_le (length bytes) 65536

-- the builder of the split bus
abbrev pub split_of : Bor (List ℕ) → MutBor (List ℕ) → Result Memory (Rejected (MutBor (List ℕ)))
split_of code store =
    cond (has_size code.now && has_size store.now) (Ok (split code.now store.now)) (rejected store MemorySize)

-- the builder of the combined bus
abbrev pub combined_of : MutBor (List ℕ) → Result Memory (Rejected (MutBor (List ℕ)))
combined_of bytes = cond (has_size bytes.now) (Ok (combined bytes.now)) (rejected bytes MemorySize)

-- the builder of the fence over a bus with this meaning
abbrev pub fence_of : {B : Type 0} → (B → Memory) → B → ℕ → ℕ → Result Memory (Rejected B)
fence_of memory below first last = cond (nat_le first last) (Ok (fenced first last (memory below))) (rejected below FirstAboveLast)
