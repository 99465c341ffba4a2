-- A port record in four bytes: port, byte, step (two, high first).
use Rattle.std.specs.Prelude.{ℕ, Bool, true, cond, List, [], ◌∷◌, length, Ok, Err, Result, ◌==◌, slice_index}
use Rattle.outcome.specs.Outcome.{then}
use Rattle.records.specs.declared.refusals.Refusal.{Refusal}
use Rattle.records.specs.declared.refusals.Refusal.TheVariants.{FieldOutsideLayout}
use Rattle.records.specs.declared.port_writes.PortRecord.{PortRecord}
use Rattle.records.specs.Bytes.{byte0, byte1, two_bytes}
use Rattle.records.specs.Port.{port_number, port_of}

abbrev pub port_bytes : PortRecord → List ℕ
port_bytes p = port_number p.port ∷ p.byte ∷ byte1 p.step ∷ byte0 p.step ∷ []

abbrev pub port_taken : List ℕ → Result PortRecord Refusal
port_taken bs =
    cond (length bs == 4)
    (then (port_of (slice_index bs 0)) (λ port. Ok (record {
      port = port;
      byte = slice_index bs 1;
      step = two_bytes (slice_index bs 2) (slice_index bs 3);
    })))
    (Err FieldOutsideLayout)

-- port records stand in any order
abbrev pub port_ordered : PortRecord → PortRecord → Bool
port_ordered before p = true
