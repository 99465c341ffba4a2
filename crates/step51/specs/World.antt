-- All that a step can change: the state of the machine, what its bus means, and what its board means.
use Rattle.boards.specs.Board.{Pins}
use Rattle.buses.specs.Memory.{Memory}
use Rattle.cycles.specs.State.{State}

pub record World (S : Type 0) : Type 0 where
  pub state : State
  pub memory : Memory
  pub pins : Pins S

abbrev pub world : {S : Type 0} → State → Memory → Pins S → World S
world s m b = record { state = s; memory = m; pins = b }
