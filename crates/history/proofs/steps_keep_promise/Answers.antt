use Rattle.history.proofs.Theorem.{by_steps}
use Rattle.history.proofs.steps_keep_promise.Goals as goal

pub returns : goal.returns
returns g c =
    by_steps g.T.Stepped.machine g.T.Stepped.view g.T.Stepped.highest g.T.Stepped.longest g.T.Stepped.unpolled g.T.Stepped.keeps
