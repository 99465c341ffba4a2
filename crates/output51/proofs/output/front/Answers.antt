use Rattle.std.proofs.Common.{◌≡◌, ◌-◌, min, length, take, ap, ◌∙◌, arith}
use Rattle.std.proofs.lemmas.List.{take_min}
use Rattle.output51.proofs.output.front.Goals as goal

pub returns : goal.returns
returns c =
    let n : c.min.result - 0 ≡ min 4096 (length c.args.file.now) = omega (arith, c.min.ensures) in
    ap (λ k. take k c.args.file.now) n ∙ take_min 4096 c.args.file.now
