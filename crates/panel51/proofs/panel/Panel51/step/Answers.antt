use Rattle.std.proofs.Common.{Result, sym, subst}
use Rattle.core51.specs.declared.fault.Fault.{Fault}
use Rattle.step51.specs.World.{World, world}
use Rattle.step51.specs.Step.{Done}
use Rattle.history51.specs.Agrees.{StepLives}
use Rattle.history51.proofs.Agrees.{step_lives}
use Rattle.panel51.specs.Panel.{panel_state}
use Rattle.panel51.proofs.panel.Panel51.step.Goals as goal

pub returns-clause-history : goal.returns-clause-history
returns-clause-history g c =
    let S = g.D.Board.State in
    let w : World S = world (panel_state c.args.self.now) (g.B.Bus.memory c.args.bus.now) (g.D.Board.pins c.args.board.now) in
    subst (λ (x : Result Done Fault × World S). StepLives g.D.Board.next w x.0 x.1) (sym c.step.ensures) (step_lives g.D.Board.next w)
