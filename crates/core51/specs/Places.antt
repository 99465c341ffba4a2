-- The bytes inside the chip that an instruction can name.
use Rattle.std.specs.Prelude.{ℕ, ◌+◌, ◌*◌, ◌/◌, ◌%◌, cond, ◌||◌, Some, None, Ok, Err, Option, Result, ◌==◌, bit_and, nat_lt, slice_index, slice_index_or, slice_set}
use Rattle.records.specs.declared.ports.Port.{Port}
use Rattle.records.specs.declared.ports.Port.TheVariants.{P0, P1, P2, P3}
use Rattle.records.specs.Port.{port_number}
use Rattle.boards.specs.Board.{Pins, level_of}
use Rattle.instructions.specs.Tables.{is_register_of}
use Rattle.instructions.specs.declared.Operand.{Operand}
use Rattle.instructions.specs.declared.Operand.TheVariants.{Accumulator, Register, Direct, Indirect, Bit}
use Rattle.core51.specs.declared.fault.Fault.{Fault}
use Rattle.core51.specs.declared.fault.Fault.TheVariants.{NoRegister, NoRam}
use Rattle.core51.specs.declared.places.Place.{Place}
use Rattle.core51.specs.declared.state.Registers.{Registers}
use Rattle.core51.specs.declared.state.Timer.{Timer}
use Rattle.core51.specs.declared.state.Timers.{Timers}
use Rattle.core51.specs.declared.state.Chip.{Chip}
use Rattle.core51.specs.Registers.{pointer_of}
use Rattle.core51.specs.State.{with_a, with_b, with_psw, with_sp, with_dpl, with_dph, with_latches, with_ram, with_low, with_high, with_table, with_tcon, with_tmod, with_ie, with_ip, with_scon, with_sbuf, with_registers, with_timers, with_control, with_serial}

-- the place with an address
abbrev pub at_address : ℕ → Place
at_address address = record { at = address }

-- a direct address: the RAM below 80H, or a register
abbrev pub direct_of : ℕ → Result Place Fault
direct_of address = cond (nat_lt address 0x80 || is_register_of address) (Ok (at_address address)) (Err NoRegister)

-- an indirect or stack address: the RAM
abbrev pub indirect_of : ℕ → Result Place Fault
indirect_of address = cond (nat_lt address 0x80) (Ok (at_address address)) (Err NoRam)

-- the byte of a bit: from 20H on in the RAM, or the register at the bit's address less its last three bits
abbrev pub bit_place_of : ℕ → Result Place Fault
bit_place_of bit = cond (nat_lt bit 0x80) (Ok (at_address (0x20 + bit / 8))) (direct_of (bit / 8 * 8))

-- R0 to R7 of the bank that bits 4 and 3 of PSW choose
abbrev pub register_of : Registers → ℕ → Place
register_of r n = at_address (r.psw / 8 % 4 * 8 + n % 8)

-- the place that an operand names
abbrev pub place_of : Registers → Operand → Result Place Fault
place_of r Accumulator = Ok (at_address 0xe0)
place_of r (Register n) = Ok (register_of r n)
place_of r (Direct address) = direct_of address
place_of r (Indirect n) = indirect_of (pointer_of r n)
place_of r (Bit bit) = bit_place_of bit

-- the byte at a place in the RAM, and the RAM with that byte replaced
abbrev pub load_of : Registers → Place → ℕ
load_of r p = slice_index r.ram (p.at % 128)

abbrev pub store_of : Registers → Place → ℕ → Registers
store_of r p byte = with_ram r (slice_set r.ram (p.at % 128) byte)

-- a timer of the table
abbrev pub timer_of : Timers → ℕ → Timer
timer_of t n = slice_index_or t.table n (record { low = 0; high = 0 })

-- the register at an address; a port's is its latch
abbrev pub get_table : Chip → ℕ → ℕ
get_table c address =
    cond (address == 0x80) (slice_index c.registers.latches 0)
    (cond (address == 0x81) c.registers.sp
    (cond (address == 0x82) c.registers.dpl
    (cond (address == 0x83) c.registers.dph
    (cond (address == 0x88) c.timers.tcon
    (cond (address == 0x89) c.timers.tmod
    (cond (address == 0x8a) (timer_of c.timers 0).low
    (cond (address == 0x8b) (timer_of c.timers 1).low
    (cond (address == 0x8c) (timer_of c.timers 0).high
    (cond (address == 0x8d) (timer_of c.timers 1).high
    (cond (address == 0x90) (slice_index c.registers.latches 1)
    (cond (address == 0x98) c.serial.scon
    (cond (address == 0x99) c.serial.sbuf
    (cond (address == 0xa0) (slice_index c.registers.latches 2)
    (cond (address == 0xa8) c.control.ie
    (cond (address == 0xb0) (slice_index c.registers.latches 3)
    (cond (address == 0xb8) c.control.ip
    (cond (address == 0xd0) c.registers.psw
    (cond (address == 0xe0) c.registers.a
    (cond (address == 0xf0) c.registers.b
    0)))))))))))))))))))

-- the same under a name that proofs do not look into unless they say so
unfoldable pub get_of : Chip → ℕ → ℕ
get_of c address = get_table c address

-- the latch of a port replaced
abbrev pub put_latch : Chip → ℕ → ℕ → Chip
put_latch c port byte = with_registers c (with_latches c.registers (slice_set c.registers.latches port byte))

-- the low or the high byte of a timer replaced
abbrev pub put_low : Chip → ℕ → ℕ → Chip
put_low c n byte = with_timers c (with_table c.timers (slice_set c.timers.table n (with_low (timer_of c.timers n) byte)))

abbrev pub put_high : Chip → ℕ → ℕ → Chip
put_high c n byte = with_timers c (with_table c.timers (slice_set c.timers.table n (with_high (timer_of c.timers n) byte)))

-- the register at an address replaced
abbrev pub put_table : Chip → ℕ → ℕ → Chip
put_table c address byte =
    cond (address == 0x80) (put_latch c 0 byte)
    (cond (address == 0x81) (with_registers c (with_sp c.registers byte))
    (cond (address == 0x82) (with_registers c (with_dpl c.registers byte))
    (cond (address == 0x83) (with_registers c (with_dph c.registers byte))
    (cond (address == 0x88) (with_timers c (with_tcon c.timers byte))
    (cond (address == 0x89) (with_timers c (with_tmod c.timers byte))
    (cond (address == 0x8a) (put_low c 0 byte)
    (cond (address == 0x8b) (put_low c 1 byte)
    (cond (address == 0x8c) (put_high c 0 byte)
    (cond (address == 0x8d) (put_high c 1 byte)
    (cond (address == 0x90) (put_latch c 1 byte)
    (cond (address == 0x98) (with_serial c (with_scon c.serial byte))
    (cond (address == 0x99) (with_serial c (with_sbuf c.serial byte))
    (cond (address == 0xa0) (put_latch c 2 byte)
    (cond (address == 0xa8) (with_control c (with_ie c.control byte))
    (cond (address == 0xb0) (put_latch c 3 byte)
    (cond (address == 0xb8) (with_control c (with_ip c.control byte))
    (cond (address == 0xd0) (with_registers c (with_psw c.registers byte))
    (cond (address == 0xe0) (with_registers c (with_a c.registers byte))
    (cond (address == 0xf0) (with_registers c (with_b c.registers byte))
    c)))))))))))))))))))

-- the same under a name that proofs do not look into unless they say so
unfoldable pub put_of : Chip → ℕ → ℕ → Chip
put_of c address byte = put_table c address byte

-- what a place holds; of a port the latch
unfoldable pub latch_of : Chip → Place → ℕ
latch_of c p = cond (nat_lt p.at 0x80) (slice_index c.registers.ram p.at) (get_of c p.at)

-- a byte put into a place
unfoldable pub write_of : Chip → Place → ℕ → Chip
write_of c p byte =
    cond (nat_lt p.at 0x80) (with_registers c (with_ram c.registers (slice_set c.registers.ram p.at byte))) (put_of c p.at byte)

-- the port whose latch a place is
abbrev pub port_of : Place → Option Port
port_of p =
    cond (p.at == 0x80) (Some P0)
    (cond (p.at == 0x90) (Some P1)
    (cond (p.at == 0xa0) (Some P2)
    (cond (p.at == 0xb0) (Some P3)
    None)))

-- a pin is 1 where latch and level are
abbrev pub seen : {S : Type 0} → Pins S → Option Port → ℕ → ℕ
seen levels (Some port) latch = bit_and latch (level_of levels (port_number port))
seen levels None byte = byte

-- what a place shows; of a port the pins
abbrev pub pins_of : {S : Type 0} → Pins S → Chip → Place → ℕ
pins_of levels c p = seen levels (port_of p) (latch_of c p)
