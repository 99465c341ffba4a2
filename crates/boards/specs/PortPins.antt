-- What the port pins that a board holds mean.
use Rattle.std.specs.Prelude.{[], ◌∷◌}
use Rattle.boards.specs.declared.port_pins.PortPins.{PortPins}
use Rattle.boards.specs.Board.{Pins}

-- their levels and driven bytes, with no state besides
abbrev pub pins_of : PortPins → Pins (Unit {0})
pins_of p = record { levels = p.levels; driven = p.driven; own = tt }

-- all levels and all driven bytes are FFH
abbrev pub pins_high : Pins (Unit {0})
pins_high = record { levels = 255 ∷ 255 ∷ 255 ∷ 255 ∷ []; driven = 255 ∷ 255 ∷ 255 ∷ 255 ∷ []; own = tt }
