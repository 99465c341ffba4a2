use Rattle.history.proofs.Theorem.{by_cycles}
use Rattle.history.proofs.cycles_keep_promise.Goals as goal

pub returns : goal.returns
returns g c = by_cycles g.T.Cycled.parts g.T.Cycled.highest g.T.Cycled.longest g.T.Cycled.unpolled g.T.Cycled.keeps
