use Rattle.std.proofs.Common.{◌≡◌, true, None}
use Rattle.std.specs.Slice.Iter.{chunks_exact_rest, chunks_exact_size}
use Rattle.record_files.specs.File.{all_taken}
use Rattle.record_files.proofs.Reading.{all_pieces, judged}
use Rattle.record_files.proofs.reader.check_pieces.Given as goal

-- what is left decides
abbrev pub invariant-loop-piece : goal.invariant-loop-piece
invariant-loop-piece g l =
    (goal.iterator-loop-piece g).can_next l.piece-iterator ×
    (chunks_exact_size l.piece-iterator ≡ g.R.Record.WIDTH) ×
    (judged g.R.Record.ordered true None (all_taken g.R.Record.taken (all_pieces g.R.Record.WIDTH l.file))
    ≡ judged g.R.Record.ordered l.ordered l.before (all_taken g.R.Record.taken (all_pieces g.R.Record.WIDTH (chunks_exact_rest l.piece-iterator))))
