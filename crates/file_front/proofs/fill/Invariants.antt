use Rattle.std.proofs.Common.{length, ◌-◌, ◌≡◌, ◌≤◌, take}
use Rattle.std.specs.Io.KnownBytes.{Consumes}
use Rattle.file_front.proofs.fill.Given as goal

-- what was read is what the reader gave
abbrev pub invariant-loop-n : goal.invariant-loop-n
invariant-loop-n g l = (length l.bytes ≡ length l.initial.bytes) × (l.n ≤ length l.bytes)
    × Consumes (g.R.Read.remaining l.initial.reader) (g.R.Read.remaining l.reader) (take l.n l.bytes)

abbrev pub decreases-loop-n : goal.decreases-loop-n
decreases-loop-n g l = length l.initial.bytes - l.n
