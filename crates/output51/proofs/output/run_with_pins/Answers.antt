use Rattle.std.proofs.Common.{length, Err, sym, ap, ◌∙◌, arith}
use Rattle.std.proofs.lemmas.Result.{err_from_is_err_and}
use Rattle.outcome.specs.Outcome.{kept, then}
use Rattle.logs.specs.Log.{held}
use Rattle.records.specs.Pin.{pin_taken, pin_ordered}
use Rattle.record_files.specs.File.{file_records}
use Rattle.record_files.proofs.Reading.{up_refused, count_records}
use Rattle.output51.specs.Output.{traced_into}
use Rattle.output51.specs.Logged.{logged}
use Rattle.output51.proofs.output.run_with_pins.Goals as goal

pub returns-in_err-take_up : goal.returns-in_err-take_up
returns-in_err-take_up g c =
    let file = c.args.pins.now in
    let room = ap (λ l. length l.free) c.new-records.ensures.value in
    let p = err_from_is_err_and c.from_residual.result c.from_residual.ensures.1 in
    let x = up_refused (held c.new-records.result) (held c.take_up.new.log) (file_records 8 pin_taken pin_ordered file) c.in_err-take_up.field-0.0
    (λ rs e. omega (arith, room, count_records pin_ordered pin_taken 8 file rs e, c.requires)) c.in_err-take_up.ensures.value in
    ap (λ e. (e, held c.args.traces.now)) (p.1 ∙ ap Err p.2)
    ∙ ap (λ r. kept (held c.args.traces.now) (logged (then r (traced_into (held c.args.traces.now) (g.B.Bus.memory c.args.bus.now))))) (sym x.0)
