use Rattle.std.proofs.Common.{◌≡◌}
use Rattle.boards.specs.Passing.{after}
use Rattle.boards.proofs.any_board.pass.Given as goal

abbrev pub invariant-loop-i : goal.invariant-loop-i
invariant-loop-i g l =
    (g.D.Board.pins l.board ≡ after g.D.Board.next l._i (g.D.Board.pins l.initial.board)) ×
    ((g.D.Board.pins l.board).driven ≡ (g.D.Board.pins l.initial.board).driven)
