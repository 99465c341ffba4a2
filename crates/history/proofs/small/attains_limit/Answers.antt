use Rattle.std.proofs.Common.{arith}
use Rattle.history.specs.Attained.{small_law, attained}
use Rattle.history.proofs.small.attains_limit.Goals as goal

pub returns-clause-best : goal.returns-clause-best
returns-clause-best c = record { lawful = small_law (omega arith) (omega arith) (omega arith); attained = attained }
