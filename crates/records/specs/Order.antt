-- The order of records.
use Rattle.std.specs.Prelude.{Bool, true, ◌&&◌, List, [], ◌∷◌, Some, None, Option}

-- each record may stand after the one before it; the first stands after none
abbrev pub follows : {R : Type 0} → (R → R → Bool) → Option R → R → Bool
follows ordered None r = true
follows ordered (Some before) r = ordered before r

abbrev pub in_order : {R : Type 0} → (R → R → Bool) → Option R → List R → Bool
in_order ordered before [] = true
in_order ordered before (r ∷ rs) = follows ordered before r && in_order ordered (Some r) rs
