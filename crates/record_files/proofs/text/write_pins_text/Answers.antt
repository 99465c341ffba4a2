use Rattle.std.proofs.Common.{◌≡◌, ◌-◌, min, length, take, ap, ◌∙◌, arith}
use Rattle.std.proofs.lemmas.List.{take_min}
use Rattle.outcome.specs.Outcome.{kept}
use Rattle.record_files.specs.Text.{printed, file_text}
use Rattle.record_files.proofs.text.write_pins_text.Goals as goal

pub returns : goal.returns
returns c =
    let n : c.min-n.result - 0 ≡ min 4096 (length c.args.file.now) = omega (arith, c.min-n.ensures) in
    let head = ap (λ k. take k c.args.file.now) n ∙ take_min 4096 c.args.file.now in
    c.write_file_text.ensures ∙ ap (λ bs. kept c.args.out.now (printed (file_text bs) c.args.out.now)) head
