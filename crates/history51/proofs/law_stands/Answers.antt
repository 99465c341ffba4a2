use Rattle.history51.proofs.Lives.{lives}
use Rattle.history51.proofs.Agrees.{step_lives}
use Rattle.history51.proofs.Runs.{run_lives}
use Rattle.history51.proofs.law_stands.Goals as goal

pub returns : goal.returns
returns g c = record { lives = lives g.D.Board.next; steps = step_lives g.D.Board.next; runs = run_lives g.D.Board.next }
