use Rattle.std.proofs.Common.{◌≡◌, ◌-◌}
use Rattle.logs.specs.Log.{held}
use Rattle.step51.specs.World.{world}
use Rattle.step51.specs.Run.{run_from, session}
use Rattle.panel51.specs.Panel.{panel_state}
use Rattle.panel51.proofs.panel.Panel51.run.Given as goal

-- what is left of the run gives its answer
abbrev pub invariant-loop-i : goal.invariant-loop-i
invariant-loop-i g l =
    (run_from g.D.Board.next l.n 0 (session (world (panel_state l.initial.self) (g.B.Bus.memory l.initial.bus) (g.D.Board.pins l.initial.board)) (held l.initial.traces) (held l.initial.ports))
    ≡ run_from g.D.Board.next (l.n - l.i) l.i (session (world (panel_state l.self) (g.B.Bus.memory l.bus) (g.D.Board.pins l.board)) (held l.traces) (held l.ports)))
    × (l.traces.places.ghost_name ≡ l.initial.traces.places.ghost_name)
    × (l.ports.places.ghost_name ≡ l.initial.ports.places.ghost_name)
