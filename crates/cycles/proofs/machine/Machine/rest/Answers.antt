use Rattle.std.proofs.Common.{◌+◌, ◌%◌, ◌^◌, sym, ap, ◌∙◌}
use Rattle.core51.specs.State.{with_timers}
use Rattle.cycles.specs.State.{State, state_of, with_pins, with_sample}
use Rattle.cycles.specs.Cycle.{sampled, ticked_of}
use Rattle.cycles.proofs.Quiet.{quiet_tick, quiet_sample, no_requests}
use Rattle.cycles.proofs.machine.Machine.rest.Goals as goal

pub returns : goal.returns
unfolding ticked_of
returns c =
    let s : State = state_of c.args.self.now in
    let chip = s.chip in
    let pins = c.args.pins in
    let d = c.default-self.ensures in
    sym (
    ap (λ t. sampled (with_timers chip t) s) (quiet_tick chip.serial.scon pins chip.timers c.requires) ∙
    ap (λ x. record { chip = with_timers chip (with_pins chip.timers pins); interrupts = with_sample s.interrupts x; cycles = (s.cycles + 1) % 2 ^ 32 })
    (quiet_sample chip.serial.scon pins chip.timers c.requires ∙ no_requests c.default-self.result d.0 d.1.0 d.1.1.0 d.1.1.1.0 d.1.1.1.1))
