-- What each layer makes of the meaning of the bus below it.
use Rattle.std.specs.Prelude.{ℕ, ◌+◌, ◌/◌, ◌%◌, Bool, true, false, cond, ◌&&◌, List, Some, None, ◌==◌, nat_le, nat_lt, slice_index}
use Rattle.buses.specs.declared.shift.Shift.{Shift}
use Rattle.buses.specs.declared.page.Page.{Page}
use Rattle.buses.specs.declared.fence.Fence.{Fence}
use Rattle.buses.specs.Memory.{Memory}

-- what stands at an address plus a number, modulo 65,536; at no address from 65,536 on
abbrev pub moved : {A : Type 0} → A → (ℕ → A) → ℕ → ℕ → A
moved nothing below by address = cond (nat_lt address 65536) (below ((address + by) % 65536)) nothing

-- every address of code and data moved by a number
abbrev pub shifted : ℕ → Memory → Memory
shifted by m = record {
  code = moved None m.code by;
  store = moved None m.store by;
  writable = moved false m.writable by;
  shared = moved false m.shared by;
}

-- whether an address has this high byte
abbrev pub on_page : ℕ → ℕ → Bool
on_page page address = address / 256 == page

-- one page of data bytes of the layer's own: writable, not shared; the code stays
abbrev pub paged : ℕ → List ℕ → Memory → Memory
paged page bytes m = record {
  code = m.code;
  store = λ address. cond (on_page page address) (Some (slice_index bytes (address % 256))) (m.store address);
  writable = λ address. cond (on_page page address) true (m.writable address);
  shared = λ address. cond (on_page page address) false (m.shared address);
}

-- whether an address lies from the first to the last, both included
abbrev pub within : ℕ → ℕ → ℕ → Bool
within first last address = nat_le first address && nat_le address last

-- the data from the first to the last address cannot be written
abbrev pub fenced : ℕ → ℕ → Memory → Memory
fenced first last m = record {
  code = m.code;
  store = m.store;
  writable = λ address. cond (within first last address) false (m.writable address);
  shared = m.shared;
}

-- the meaning of each layer, by that of the bus below
abbrev pub shift_memory : {B : Type 0} → (B → Memory) → Shift B → Memory
shift_memory memory layer = shifted layer.by (memory layer.below)

abbrev pub page_memory : {B : Type 0} → (B → Memory) → Page B → Memory
page_memory memory layer = paged layer.page layer.bytes (memory layer.below)

abbrev pub fence_memory : {B : Type 0} → (B → Memory) → Fence B → Memory
fence_memory memory layer = fenced layer.first layer.last (memory layer.below)
