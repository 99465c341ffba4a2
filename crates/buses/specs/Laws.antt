-- A shared address has equal code and data bytes, on each bus and through each layer.
use Rattle.std.specs.Prelude.{◌≡◌, ℕ, ◌+◌, ◌%◌, Bool, true, false, cond, List, Some, None, nat_lt, slice_index, slice_index_or}
use Rattle.std.proofs.Common.{ap}
use Rattle.std.proofs.lemmas.Bool.{false≢true}
use Rattle.buses.specs.Memory.{Memory, Lawful}
use Rattle.buses.specs.Buses.{split, combined}
use Rattle.buses.specs.Layers.{shifted, paged, on_page}

pub split_lawful : (code store : List ℕ) → Lawful (split code store)
split_lawful code store address h = absurd (false≢true h)

pub combined_lawful : (bytes : List ℕ) → Lawful (combined bytes)
combined_lawful bytes address h =
    let byte = slice_index_or bytes address 0 in
    let there = ap (λ (b : Bool). cond b (Some byte) None) h in
    (byte, there, there)

-- an address that is moved, if it is one of the 65,536
moved_lawful : (inside : Bool) (m : Memory) → Lawful m → (x : ℕ) → cond inside (m.shared x) false ≡ true
    → (byte : ℕ) × (cond inside (m.code x) None ≡ Some byte) × (cond inside (m.store x) None ≡ Some byte)
moved_lawful true m law x h = law x h
moved_lawful false m law x h = absurd (false≢true h)

pub shifted_lawful : (by : ℕ) (m : Memory) → Lawful m → Lawful (shifted by m)
shifted_lawful by m law address h = moved_lawful (nat_lt address 65536) m law ((address + by) % 65536) h

-- an address that is on the layer's own page or not
own_lawful : (own : Bool) (byte : ℕ) (m : Memory) → Lawful m → (x : ℕ) → cond own false (m.shared x) ≡ true
    → (b : ℕ) × (m.code x ≡ Some b) × (cond own (Some byte) (m.store x) ≡ Some b)
own_lawful true byte m law x h = absurd (false≢true h)
own_lawful false byte m law x h = law x h

pub paged_lawful : (page : ℕ) (bytes : List ℕ) (m : Memory) → Lawful m → Lawful (paged page bytes m)
paged_lawful page bytes m law address h = own_lawful (on_page page address) (slice_index bytes (address % 256)) m law address h
