use Rattle.std.proofs.Common.{take}
use Rattle.record_files.specs.File.{file_bytes}
use Rattle.logs.specs.Log.{Extends}
use Rattle.record_files.proofs.writer.write_records.Given as goal

-- the bytes of the records so far are written
abbrev pub invariant-loop-record : goal.invariant-loop-record
invariant-loop-record g l = Extends l.initial.bytes l.bytes (file_bytes g.R.Record.image (take l.record-index l.record-items))
