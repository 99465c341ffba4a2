-- Worked cases, each of a whole instruction.
use Rattle.std.specs.Prelude.{◌≡◌, ℕ, ◌-◌, false, cond, List, [], ◌∷◌, replicate, Some, None, Ok, Err, Result, nat_lt, slice_index}
use Rattle.boards.specs.Board.{Pins}
use Rattle.buses.specs.Memory.{Memory}
use Rattle.core51.specs.declared.fault.Fault.{Fault}
use Rattle.core51.specs.declared.state.Chip.{Chip}
use Rattle.core51.specs.Faults.{number_of}
use Rattle.execute51.specs.declared.told.Told.{Told}
use Rattle.execute51.specs.Execute.{execute_of}

-- code bytes from an address on, and no data
abbrev pub coded : ℕ → List ℕ → Memory
coded from bytes = record {
  code = λ a. cond (nat_lt a from) None (Some (slice_index bytes (a - from)));
  store = λ a. None;
  writable = λ a. false;
  shared = λ a. false;
}

-- a board with one level at all four ports
abbrev pub level : ℕ → Pins (Unit {0})
level byte = record { levels = replicate 4 byte; driven = replicate 4 255; own = tt }

-- a chip with all bytes 00H but for A, SP, PC and the latches
abbrev pub chip : ℕ → ℕ → ℕ → ℕ → Chip
chip a0 sp0 pc0 latch = record {
  registers = record { a = a0; b = 0; psw = 0; sp = sp0; dpl = 0; dph = 0; latches = replicate 4 latch; pc = pc0; ram = replicate 128 0 };
  timers = record { table = replicate 2 (record { low = 0; high = 0 }); tcon = 0; tmod = 0; pins = 255 };
  control = record { ie = 0; ip = 0 };
  serial = record { scon = 0; sbuf = 0 };
}

-- what is looked at after an instruction, or the number of its refusal
abbrev pub looked : (Chip → List ℕ) → Result (Told × (Chip × Memory)) Fault → Result (List ℕ) ℕ
looked look (Ok x) = Ok (look x.1.0)
looked look (Err e) = Err (number_of e)

-- PC, SP, and the RAM at 00H, 01H, 7EH and 7FH after LCALL 5678H at 12FCH, with SP as given
abbrev pub call_at : ℕ → Result (List ℕ) ℕ
call_at sp0 = looked (λ c. c.registers.pc ∷ c.registers.sp ∷ slice_index c.registers.ram 0x00 ∷ slice_index c.registers.ram 0x01
    ∷ slice_index c.registers.ram 0x7e ∷ slice_index c.registers.ram 0x7f ∷ [])
    (execute_of (level 255) (chip 0 sp0 0x12fc 255) (coded 0x12fc (0x12 ∷ 0x56 ∷ 0x78 ∷ [])))

-- LCALL runs at SP 7DH, is refused with 14 at 7EH, and at FFH pushes to 00H and 01H
abbrev pub Calls : Type 0
Calls = (call_at 0x7d ≡ Ok (0x5678 ∷ 0x7f ∷ 0x00 ∷ 0x00 ∷ 0xff ∷ 0x12 ∷ []))
    × (call_at 0x7e ≡ Err 14)
    × (call_at 0xff ≡ Ok (0x5678 ∷ 0x01 ∷ 0xff ∷ 0x12 ∷ 0x00 ∷ 0x00 ∷ []))

-- A and the latch of port 1 after an instruction of two bytes, with A 55H, latch 0FH and level F0H
abbrev pub port_after : ℕ → Result (List ℕ) ℕ
port_after opcode = looked (λ c. c.registers.a ∷ slice_index c.registers.latches 1 ∷ [])
    (execute_of (level 0xf0) (chip 0x55 0x07 0 0x0f) (coded 0 (opcode ∷ 0x90 ∷ [])))

-- MOV A,P1 reads 00H, INC P1 counts the latch, XCH A,P1 reads 00H and puts A into the latch
abbrev pub Ports : Type 0
Ports = (port_after 0xe5 ≡ Ok (0x00 ∷ 0x0f ∷ []))
    × (port_after 0x05 ≡ Ok (0x55 ∷ 0x10 ∷ []))
    × (port_after 0xc5 ≡ Ok (0x00 ∷ 0x55 ∷ []))
