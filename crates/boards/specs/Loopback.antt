-- A board that leads what is driven on port 1 to the level of port 3.
use Rattle.std.specs.Prelude.{ℕ, List, [], ◌∷◌, slice_index, slice_set}
use Rattle.boards.specs.Board.{Pins}

-- these levels and driven bytes; this board has no state besides
abbrev pub looped : List ℕ → List ℕ → Pins (Unit {0})
looped levels driven = record { levels = levels; driven = driven; own = tt }

-- all levels and all driven bytes are FFH
abbrev pub loopback_start : Pins (Unit {0})
loopback_start = looped (255 ∷ 255 ∷ 255 ∷ 255 ∷ []) (255 ∷ 255 ∷ 255 ∷ 255 ∷ [])

-- the byte driven on port 1 becomes the level of port 3
abbrev pub loopback_next : Pins (Unit {0}) → Pins (Unit {0})
loopback_next b = record { levels = slice_set b.levels 3 (slice_index b.driven 1); driven = b.driven; own = b.own }
