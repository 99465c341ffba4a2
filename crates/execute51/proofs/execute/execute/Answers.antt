use Rattle.std.proofs.Common.{rules}
use Rattle.execute51.specs.Execute.{execute_of}
use Rattle.execute51.proofs.Shows.{execute_shows}
use Rattle.execute51.proofs.execute.execute.Goals as goal

pub returns-clause-effect : goal.returns-clause-effect
unfolding execute_of
returns-clause-effect g c = search rules

pub returns-clause-shows : goal.returns-clause-shows
returns-clause-shows g c =
    (execute_shows (g.D.Board.pins c.args.board.now) c.args.core.now.chip (g.B.Bus.memory c.args.bus.now) _ _ _ (returns-clause-effect g c)).0

pub returns-clause-opcode : goal.returns-clause-opcode
returns-clause-opcode g c =
    (execute_shows (g.D.Board.pins c.args.board.now) c.args.core.now.chip (g.B.Bus.memory c.args.bus.now) _ _ _ (returns-clause-effect g c)).1
