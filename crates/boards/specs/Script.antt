-- A board that plays pin records: each gives its port a level from its cycle on.
use Rattle.std.specs.Prelude.{◌≡◌, ℕ, ◌+◌, min, Bool, false, cond, List, [], ◌∷◌, None, Ok, Err, Result, ◌==◌, nat_le, slice_set}
use Rattle.records.specs.declared.pins.PinRecord.{PinRecord}
use Rattle.records.specs.declared.refusals.Refusal.{Refusal}
use Rattle.records.specs.declared.refusals.Refusal.TheVariants.{CycleBelowTheOneBefore}
use Rattle.records.specs.Order.{in_order}
use Rattle.records.specs.Pin.{pin_ordered}
use Rattle.records.specs.Port.{port_number}
use Rattle.boards.specs.Board.{Pins}
use Rattle.boards.specs.Passing.{after}

-- the records whose cycle is at most n
abbrev pub in_force : ℕ → List PinRecord → List PinRecord
in_force n [] = []
in_force n (r ∷ rs) = cond (nat_le r.cycle n) (r ∷ in_force n rs) (in_force n rs)

-- the level of the last record for the port, or v if there is none
abbrev pub last_level : ℕ → List PinRecord → ℕ → ℕ
last_level port [] v = v
last_level port (r ∷ rs) v = last_level port rs (cond (port_number r.port == port) r.level v)

-- the levels of the four ports, FFH where no record is for the port
abbrev pub last_levels : List PinRecord → List ℕ
last_levels rs = last_level 0 rs 255 ∷ last_level 1 rs 255 ∷ last_level 2 rs 255 ∷ last_level 3 rs 255 ∷ []

-- the levels after n ticks: of each port, that of the last record whose cycle is at most n
abbrev pub levels_at : List PinRecord → ℕ → List ℕ
levels_at rs n = last_levels (in_force n rs)

-- whether the first of the records has fallen due after n ticks
abbrev pub first_is_due : ℕ → List PinRecord → Bool
first_is_due n [] = false
first_is_due n (r ∷ rs) = nat_le r.cycle n

-- the records up to the first that is not due after n ticks
abbrev pub due_before : ℕ → List PinRecord → List PinRecord
due_before n [] = []
due_before n (r ∷ rs) = cond (nat_le r.cycle n) (r ∷ due_before n rs) []

-- the records from the first on that is not due after n ticks
abbrev pub due_after : ℕ → List PinRecord → List PinRecord
due_after n [] = []
due_after n (r ∷ rs) = cond (nat_le r.cycle n) (due_after n rs) (r ∷ rs)

-- levels, with those of the records put in turn
abbrev pub put_levels : List ℕ → List PinRecord → List ℕ
put_levels levels [] = levels
put_levels levels (r ∷ rs) = put_levels (slice_set levels (port_number r.port) r.level) rs

-- the state of its own: the records, and how many ticks have passed
pub record Playback : Type 0 where
  pub records : List PinRecord
  pub ticks : ℕ

-- the board that plays the records, after n ticks and with these driven bytes
abbrev pub played : List PinRecord → ℕ → List ℕ → Pins Playback
played rs n driven = record { levels = levels_at rs n; driven = driven; own = record { records = rs; ticks = n } }

-- no cycle is below the one before
abbrev pub cycles_in_order : List PinRecord → Bool
cycles_in_order rs = in_order pin_ordered None rs

-- before the first tick, with all driven bytes FFH
abbrev pub script_start : List PinRecord → Pins Playback
script_start rs = played rs 0 (255 ∷ 255 ∷ 255 ∷ 255 ∷ [])

-- the board that loading these records makes, or the refusal
abbrev pub load_of : List PinRecord → Result (Unit × Pins Playback) Refusal
load_of rs = cond (cycles_in_order rs) (Ok (tt, script_start rs)) (Err CycleBelowTheOneBefore)

-- one tick more; the count stops at 4,294,967,295
abbrev pub script_next : Pins Playback → Pins Playback
script_next b = played b.own.records (min (b.own.ticks + 1) 4294967295) b.driven

-- after any number of ticks the levels are those that the definition gives for that number
abbrev pub Plays : List PinRecord → Type 0
Plays rs = (n : ℕ) → after script_next n (script_start rs) ≡ played rs (min n 4294967295) (255 ∷ 255 ∷ 255 ∷ 255 ∷ [])
