use Rattle.std.proofs.Common.{◌≡◌, take}
use Rattle.logs.specs.Log.{held, Adds}
use Rattle.logs.proofs.log.Log.extend.Given as goal

-- the records so far are in the log
abbrev pub invariant-loop-record : goal.invariant-loop-record
invariant-loop-record g l =
    Adds (held l.initial.self) (held l.self) (take l.record-index l.records)
    × (l.self.places.ghost_name ≡ l.initial.self.places.ghost_name)
