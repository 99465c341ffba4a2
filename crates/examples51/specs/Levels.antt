-- A board of fixed levels.
use Rattle.std.specs.Prelude.{ℕ, List}
use Rattle.boards.specs.Board.{Pins}

-- these levels and driven bytes; this board has no state besides
abbrev pub fixed : List ℕ → List ℕ → Pins (Unit {0})
fixed levels driven = record { levels = levels; driven = driven; own = tt }
