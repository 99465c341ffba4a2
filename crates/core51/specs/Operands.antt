-- The places that an instruction names, what they hold, and the one byte that it may put back.
use Rattle.std.specs.Prelude.{ℕ, Bool, true, false, cond, Some, None, Ok, Option, Result}
use Rattle.outcome.specs.Outcome.{then}
use Rattle.boards.specs.Board.{Pins}
use Rattle.instructions.specs.declared.Operand.{Operand}
use Rattle.instructions.specs.declared.Operand.TheVariants.{Accumulator, Register, Direct, Indirect, Bit}
use Rattle.instructions.specs.declared.operands.Operands.{Operands}
use Rattle.core51.specs.declared.fault.Fault.{Fault}
use Rattle.core51.specs.declared.places.Place.{Place}
use Rattle.core51.specs.declared.state.Registers.{Registers}
use Rattle.core51.specs.declared.state.Chip.{Chip}
use Rattle.core51.specs.Places.{place_of, latch_of, pins_of, write_of}

-- the operand is a RAM byte by an address in R0 or R1
abbrev pub is_indirect : Option Operand → Bool
is_indirect None = false
is_indirect (Some Accumulator) = false
is_indirect (Some (Register n)) = false
is_indirect (Some (Direct a)) = false
is_indirect (Some (Indirect n)) = true
is_indirect (Some (Bit b)) = false

-- the place of an operand, if there is one
abbrev pub named_of : Registers → Option Operand → Result (Option Place) Fault
named_of r None = Ok None
named_of r (Some o) = then (place_of r o) (λ p. Ok (Some p))

-- the place that is written, and the place that is only read
abbrev pub Places : Type 0
Places = Operands Place

-- target and source
abbrev pub two_places : Option Place → Option Place → Places
two_places t s = record { target = t; source = s }

-- the places of both operands; an indirect target is looked up last, so that a missing register is told before missing RAM
abbrev pub places_of : Registers → Operands Operand → Result Places Fault
places_of r o =
    cond (is_indirect o.target)
    (then (named_of r o.source) (λ s. then (named_of r o.target) (λ t. Ok (two_places t s))))
    (then (named_of r o.target) (λ t. then (named_of r o.source) (λ s. Ok (two_places t s))))

-- what a named place holds; of a port the latch
abbrev pub held_of : Chip → Option Place → ℕ
held_of c None = 0
held_of c (Some p) = latch_of c p

-- what a named place shows; of a port the pins
abbrev pub read_of : {S : Type 0} → Pins S → Chip → Option Place → ℕ
read_of levels c None = 0
read_of levels c (Some p) = pins_of levels c p

-- the byte that an instruction answers, put into the place that it names
abbrev pub committed_of : Chip → Option Place → Option ℕ → Chip
committed_of c (Some p) (Some byte) = write_of c p byte
committed_of c (Some p) None = c
committed_of c None (Some byte) = c
committed_of c None None = c
