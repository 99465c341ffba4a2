use Rattle.std.proofs.Common.{ap, ◌∙◌}
use Rattle.cycles.specs.Flags.{flags_of}
use Rattle.cycles.specs.State.{with_pins}
use Rattle.cycles.specs.Cycle.{tick_of}
use Rattle.cycles.proofs.cycle.tick.Goals as goal

pub returns : goal.returns
unfolding tick_of
returns c = ap (λ t. with_pins t c.args.pins) (c.raise_flags.ensures ∙ ap (flags_of c.args.pins) c.count_timers.ensures)
