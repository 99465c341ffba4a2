use Rattle.instructions.proofs.TablesHold.{lengths_hold, cycles_hold}
use Rattle.instructions.proofs.laws.tables_stand.Goals as goal

pub returns-clause-lengths : goal.returns-clause-lengths
returns-clause-lengths c = lengths_hold

pub returns-clause-cycles : goal.returns-clause-cycles
returns-clause-cycles c = cycles_hold
