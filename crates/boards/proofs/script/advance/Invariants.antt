use Rattle.std.proofs.Common.{◌≡◌, length}
use Rattle.boards.specs.Script.{due_before, due_after, put_levels}
use Rattle.boards.proofs.script.advance.Given as goal

-- what is due of the rest leads to what is due of all
abbrev pub invariant-loop-rest : goal.invariant-loop-rest
invariant-loop-rest l =
    (due_after l.ticks l.rest ≡ due_after l.ticks l.records) ×
    (put_levels l.levels (due_before l.ticks l.rest) ≡ put_levels l.fn.before (due_before l.ticks l.records))

abbrev pub decreases-loop-rest : goal.decreases-loop-rest
decreases-loop-rest l = length l.rest
