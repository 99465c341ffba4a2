use Rattle.execute51.proofs.Computed.{calls, ports}
use Rattle.execute51.proofs.cases.cases_hold.Goals as goal

pub returns : goal.returns
returns c = record { calls = calls; ports = ports }
