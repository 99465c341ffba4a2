use Rattle.std.proofs.Common.{◌≡◌, ◌-◌, ap, ◌∙◌, arith}
use Rattle.cycles.specs.Cycle.{cycle_of, cycles_of}
use Rattle.cycles.proofs.machine.Machine.run_cycles.Goals as goal

pub returns : goal.returns
unfolding cycles_of
returns g c =
    let e : c.loop-i._i ≡ c.args.count - 1 = omega arith in
    c.cycle-2.ensures ∙ ap (cycle_of g.D.Board.next c.args.polls) (rw e at c.loop-i.invariant)
