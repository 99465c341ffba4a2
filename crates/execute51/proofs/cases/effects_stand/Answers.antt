use Rattle.execute51.proofs.Shows.{targets}
use Rattle.execute51.proofs.cases.effects_stand.Goals as goal

pub returns : goal.returns
returns c = targets
