use Rattle.std.proofs.Common.{◌≤◌, [], length, sym, ap, ◌∙◌, subst}
use Rattle.outcome.specs.Outcome.{kept}
use Rattle.record_files.specs.File.{file_records}
use Rattle.logs.specs.Log.{held}
use Rattle.records.specs.Pin.{pin_bytes, pin_taken, pin_ordered}
use Rattle.record_files.specs.Text.{text_of, printed, outcome_text}
use Rattle.record_files.proofs.Reading.{up_refused, count_records}
use Rattle.record_files.proofs.text.write_file_text.Goals as goal

pub returns-in-Err : goal.returns-in-Err
returns-in-Err c =
    let x = up_refused (held c.args.pins.now) (held c.take_up.new.log) (file_records 8 pin_taken pin_ordered c.args.file.now) c.in-Err.refusal
    (λ rs e. subst (λ k. k ≤ length (held c.args.pins.now).free) (sym (count_records pin_ordered pin_taken 8 c.args.file.now rs e)) c.requires.1) c.in-Err.ensures.value in
    c.write_text-in-Err.ensures
    ∙ ap (λ l. kept c.args.out.now (printed (text_of pin_bytes l.made c.from.result) c.args.out.now)) x.1
    ∙ ap (λ rs. kept c.args.out.now (printed (text_of pin_bytes rs c.from.result) c.args.out.now)) c.requires.0
    ∙ ap (λ n. kept c.args.out.now (printed (text_of pin_bytes [] n) c.args.out.now)) c.from.ensures
    ∙ ap (λ y. kept c.args.out.now (printed (outcome_text y) c.args.out.now)) (sym x.0)
