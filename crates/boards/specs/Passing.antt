-- What a whole board shows, and what several ticks bring.
use Rattle.std.specs.Prelude.{ℕ, zero, suc, List, [], ◌∷◌}
use Rattle.boards.specs.Board.{Pins, level_of}

-- the levels of the four ports
abbrev pub four_levels : {S : Type 0} → Pins S → List ℕ
four_levels b = level_of b 0 ∷ level_of b 1 ∷ level_of b 2 ∷ level_of b 3 ∷ []

-- a board after n ticks, each of which brings what is next
abbrev pub after : {S : Type 0} → (Pins S → Pins S) → ℕ → Pins S → Pins S
after next zero b = b
after next (suc n) b = next (after next n b)
