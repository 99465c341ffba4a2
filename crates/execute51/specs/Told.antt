-- What an executed instruction tells.
use Rattle.std.specs.Prelude.{ℕ, Some, None, Option}
use Rattle.records.specs.declared.ports.Port.{Port}
use Rattle.instructions.specs.declared.Instruction.{Instruction}
use Rattle.instructions.specs.Operands.{is_reti_of, polls_of}
use Rattle.instructions.specs.Tables.{cycles_of}
use Rattle.core51.specs.declared.places.Place.{Place}
use Rattle.core51.specs.Places.{port_of}
use Rattle.execute51.specs.declared.effect.Answer.{Answer}
use Rattle.execute51.specs.declared.told.PortWrite.{PortWrite}
use Rattle.execute51.specs.declared.told.Done.{Done}
use Rattle.execute51.specs.declared.told.Told.{Told}

-- a byte put into the latch of a port
abbrev pub to_port : Option Port → ℕ → Option PortWrite
to_port None b = None
to_port (Some p) b = Some (record { port = p; byte = b })

-- the port write of an instruction that puts a byte into a place
abbrev pub port_write_of : Option Place → Option ℕ → Option PortWrite
port_write_of (Some p) (Some b) = to_port (port_of p) b
port_write_of (Some p) None = None
port_write_of None (Some b) = None
port_write_of None None = None

-- the port write and the access of what an effect answers
abbrev pub done_of : Option Place → Answer → Done
done_of place e = record { port = port_write_of place e.byte; access = e.access }

-- all that is told, by opcode, instruction and what was done
abbrev pub told_of : ℕ → Instruction → Done → Told
told_of op i d = record {
  opcode = op;
  cycles = cycles_of op;
  polls = polls_of i;
  is_reti = is_reti_of i;
  port = d.port;
  access = d.access;
}
