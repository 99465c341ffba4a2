use Rattle.std.proofs.Common.{take}
use Rattle.std.specs.List.{flat_map}
use Rattle.logs.specs.Log.{Extends}
use Rattle.record_files.specs.Text.{record_line}
use Rattle.record_files.proofs.text.write_text.Given as goal

-- the lines of the records so far are written
abbrev pub invariant-loop-record : goal.invariant-loop-record
invariant-loop-record g l = Extends l.initial.text l.text (flat_map (record_line g.R.Record.image) (take l.record-index l.record-items))
