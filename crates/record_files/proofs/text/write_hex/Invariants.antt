use Rattle.std.proofs.Common.{take}
use Rattle.std.specs.List.{flat_map}
use Rattle.logs.specs.Log.{Extends}
use Rattle.record_files.specs.Text.{hex_byte}
use Rattle.record_files.proofs.text.write_hex.Given as goal

-- the digits of the bytes so far are written
abbrev pub invariant-loop-b : goal.invariant-loop-b
invariant-loop-b l =
    Extends l.initial.text l.text (flat_map hex_byte (take l.b-index l.bytes))
