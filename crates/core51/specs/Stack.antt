-- The stack.
use Rattle.std.specs.Prelude.{ℕ, ◌+◌, ◌/◌, ◌%◌, Ok, Result}
use Rattle.outcome.specs.Outcome.{then}
use Rattle.arithmetic.specs.Addresses.{word_of}
use Rattle.core51.specs.declared.fault.Fault.{Fault}
use Rattle.core51.specs.declared.state.Registers.{Registers}
use Rattle.core51.specs.State.{with_sp}
use Rattle.core51.specs.Places.{indirect_of, load_of, store_of}

-- SP counts modulo 256
abbrev pub up : ℕ → ℕ
up sp = (sp + 1) % 256

abbrev pub down : ℕ → ℕ
down sp = (sp + 255) % 256

-- a byte goes above the last one
abbrev pub push_of : Registers → ℕ → Result (Unit {0} × Registers) Fault
push_of r byte = then (indirect_of (up r.sp)) (λ place. Ok (tt, with_sp (store_of r place byte) (up r.sp)))

-- the last byte comes back
abbrev pub pop_of : Registers → Result (ℕ × Registers) Fault
pop_of r = then (indirect_of r.sp) (λ place. Ok (load_of r place, with_sp r (down r.sp)))

-- an address: its low byte, and above it the high one
abbrev pub push_address_of : Registers → ℕ → Result (Unit {0} × Registers) Fault
push_address_of r address =
    then (indirect_of (up r.sp)) (λ low.
    then (indirect_of (up (up r.sp))) (λ high.
    Ok (tt, with_sp (store_of (store_of r low (address % 256)) high (address / 256)) (up (up r.sp)))))

-- an address comes back: its high byte, and below it the low one
abbrev pub pop_address_of : Registers → Result (ℕ × Registers) Fault
pop_address_of r =
    then (indirect_of r.sp) (λ high.
    then (indirect_of (down r.sp)) (λ low.
    Ok (word_of (load_of r high) (load_of r low), with_sp r (down (down r.sp)))))
