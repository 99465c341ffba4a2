-- The four ports by their numbers.
use Rattle.std.specs.Prelude.{ℕ, cond, Ok, Err, Result, ◌==◌}
use Rattle.records.specs.declared.refusals.Refusal.{Refusal}
use Rattle.records.specs.declared.refusals.Refusal.TheVariants.{FieldOutsideLayout}
use Rattle.records.specs.declared.ports.Port.{Port}
use Rattle.records.specs.declared.ports.Port.TheVariants.{P0, P1, P2, P3}

abbrev pub port_number : Port → ℕ
port_number P0 = 0
port_number P1 = 1
port_number P2 = 2
port_number P3 = 3

-- a number above 3 is no port
abbrev pub port_of : ℕ → Result Port Refusal
port_of n = cond (n == 0) (Ok P0) (cond (n == 1) (Ok P1) (cond (n == 2) (Ok P2) (cond (n == 3) (Ok P3) (Err FieldOutsideLayout))))
