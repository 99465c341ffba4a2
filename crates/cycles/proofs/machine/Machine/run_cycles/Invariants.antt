use Rattle.std.proofs.Common.{◌≡◌}
use Rattle.cycles.specs.State.{state_of}
use Rattle.cycles.specs.Cycle.{silent}
use Rattle.cycles.proofs.machine.Machine.run_cycles.Given as goal

abbrev pub invariant-loop-i : goal.invariant-loop-i
invariant-loop-i g l = (state_of l.self, g.D.Board.pins l.board) ≡ silent g.D.Board.next l._i (state_of l.initial.self, g.D.Board.pins l.initial.board)
