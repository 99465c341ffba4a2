-- A pin record in eight bytes: cycle (four, high first), port, level, two zeros.
use Rattle.std.specs.Prelude.{ℕ, Bool, cond, ◌&&◌, List, [], ◌∷◌, length, Ok, Err, Result, ◌==◌, nat_le, slice_index}
use Rattle.outcome.specs.Outcome.{then}
use Rattle.records.specs.declared.refusals.Refusal.{Refusal}
use Rattle.records.specs.declared.refusals.Refusal.TheVariants.{FieldOutsideLayout}
use Rattle.records.specs.declared.pins.PinRecord.{PinRecord}
use Rattle.records.specs.Bytes.{byte0, byte1, byte2, byte3, four_bytes}
use Rattle.records.specs.Port.{port_number, port_of}

abbrev pub pin_bytes : PinRecord → List ℕ
pin_bytes p = byte3 p.cycle ∷ byte2 p.cycle ∷ byte1 p.cycle ∷ byte0 p.cycle ∷ port_number p.port ∷ p.level ∷ 0 ∷ 0 ∷ []

-- eight bytes that end in two zeros
abbrev pub pin_shaped : List ℕ → Bool
pin_shaped bs = length bs == 8 && (slice_index bs 6 == 0 && slice_index bs 7 == 0)

abbrev pub pin_taken : List ℕ → Result PinRecord Refusal
pin_taken bs =
    cond (pin_shaped bs)
    (then (port_of (slice_index bs 4)) (λ port. Ok (record {
      cycle = four_bytes (slice_index bs 0) (slice_index bs 1) (slice_index bs 2) (slice_index bs 3);
      port = port;
      level = slice_index bs 5;
    })))
    (Err FieldOutsideLayout)

-- a pin record's cycle is not below the one before
abbrev pub pin_ordered : PinRecord → PinRecord → Bool
pin_ordered before p = nat_le before.cycle p.cycle
