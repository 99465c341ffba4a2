use Rattle.std.proofs.Common.{[], ◌∷◌, ◌++◌, take, sym, ap, ◌∙◌, subst}
use Rattle.std.proofs.lemmas.List.{take_more}
use Rattle.logs.specs.Log.{held, Adds}
use Rattle.logs.proofs.Growth.{adds_more, adds_one}
use Rattle.logs.proofs.log.Log.extend.Goals as goal

pub loop-record-preserved : goal.loop-record-preserved
loop-record-preserved g c =
    let one = adds_one (held c.loop-record.self) (held c.append.new.self) c.record-item.result c.append.result c.append.ensures.value in
    let more = adds_more (held c.args.self.now) (held c.loop-record.self) (held c.append.new.self) (take c.loop-record.record-index c.args.records.now) _ c.loop-record.invariant.0 one in
    let t = take_more c.args.records.now c.loop-record.record-index c.record-item.result c.loop-record-test.true in (
      subst (λ rs. Adds (held c.args.self.now) (held c.append.new.self) rs) (ap (λ r. take c.loop-record.record-index c.args.records.now ++ (r ∷ [])) c.record-item.is ∙ sym t) more,
      c.append.ensures.lent ∙ c.loop-record.invariant.1,
    )
