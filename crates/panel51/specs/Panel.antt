-- The state of the core.
use Rattle.cycles.specs.State.{State, state_of}
use Rattle.panel51.specs.declared.panel.Panel51.{Panel51}

abbrev pub panel_state : Panel51 → State
panel_state p = state_of p.machine
