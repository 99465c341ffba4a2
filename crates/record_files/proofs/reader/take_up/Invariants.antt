use Rattle.std.proofs.Common.{◌≡◌}
use Rattle.std.specs.List.{flat_map}
use Rattle.std.specs.Slice.Iter.{chunks_exact_rest, chunks_exact_size}
use Rattle.record_files.specs.File.{accepted}
use Rattle.logs.specs.Log.{Entries, held, Adds}
use Rattle.record_files.proofs.Reading.{all_pieces}
use Rattle.record_files.proofs.reader.take_up.Given as goal

-- what is left completes the log
abbrev pub invariant-loop-piece : goal.invariant-loop-piece
invariant-loop-piece g l =
    (goal.iterator-loop-piece g).can_next l.piece-iterator ×
    (chunks_exact_size l.piece-iterator ≡ g.R.Record.WIDTH) ×
    ((end : Entries g.row.R.Denot)
    → Adds (held l.log) end (flat_map (λ p. accepted (g.R.Record.taken p)) (all_pieces g.R.Record.WIDTH (chunks_exact_rest l.piece-iterator)))
    → Adds (held l.initial.log) end (flat_map (λ p. accepted (g.R.Record.taken p)) (all_pieces g.R.Record.WIDTH l.file))) ×
    (l.log.places.ghost_name ≡ l.initial.log.places.ghost_name)
