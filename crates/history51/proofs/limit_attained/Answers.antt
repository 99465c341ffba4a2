use Rattle.history51.proofs.Timeline.{attains}
use Rattle.history51.proofs.limit_attained.Goals as goal

pub returns : goal.returns
returns c = attains
