use Rattle.std.proofs.Common.{◌≡◌, ◌+◌, ◌-◌, ◌*◌, ◌/◌, ◌<◌, ◌≤◌, length, take, ap, ◌∙◌, subst, div-lt_iff_lt-mul, le-div_iff_mul-le, arith, length-append, rules}
use Rattle.std.specs.List.{flat_map}
use Rattle.std.proofs.lemmas.List.{take_all}
use Rattle.logs.specs.Log.{held, Adds}
use Rattle.record_files.specs.Text.{record_line, stop_line, text_of}
use Rattle.logs.proofs.Growth.{adds_more}
use Rattle.record_files.proofs.Writing.{adds_item, length_lines, printed_through, too_long}
use Rattle.record_files.proofs.text.write_text.Goals as goal

pub returns-then-out-WIDTH : goal.returns-then-out-WIDTH
returns-then-out-WIDTH g c =
    let rs = (held c.args.log.now).made in
    let w = g.R.Record.WIDTH in
    let k : 2 * c.WIDTH.result + 1 ≡ w * 2 + 1 = omega (arith, c.WIDTH.ensures) in
    let d = ap (λ x. (length c.args.out.now - 8) / x) k in
    let h : (length c.args.out.now - 8) / (w * 2 + 1) < length rs = omega (arith, d) in
    let p : 0 < w * 2 + 1 = omega arith in
    let l : length c.args.out.now - 8 < length rs * (w * 2 + 1) = (div-lt_iff_lt-mul p).0 h in
    too_long c.args.out.now (text_of g.R.Record.image rs c.args.stop)
    (omega (arith, length-append (flat_map (record_line g.R.Record.image) rs) (stop_line c.args.stop), length_lines g.R.Record.image w g.R.Record.sized rs))

pub loop-record-preserved : goal.loop-record-preserved
loop-record-preserved g c = record {
  adds = adds_item (record_line g.R.Record.image) c.records-record-items.result.now c.loop-record.record-index c.record-item.result (held c.new-text.result) (held c.loop-record.text) (held c.write_line.new.text)
      c.loop-record-test.true c.record-item.is c.loop-record.invariant.adds c.write_line.ensures.adds;
  lent = c.write_line.ensures.lent ∙ c.loop-record.invariant.lent;
}

pub returns : goal.returns
returns g c =
    let rs = (held c.args.log.now).made in
    let w = g.R.Record.WIDTH in
    let k : 2 * c.WIDTH.result + 1 ≡ w * 2 + 1 = omega (arith, c.WIDTH.ensures) in
    let d = ap (λ x. (length c.args.out.now - 8) / x) k in
    let h : length rs ≤ (length c.args.out.now - 8) / (w * 2 + 1) = omega (arith, d) in
    let p : 0 < w * 2 + 1 = omega arith in
    let l : length rs * (w * 2 + 1) ≤ length c.args.out.now - 8 = (le-div_iff_mul-le p).0 h in
    let f : length (text_of g.R.Record.image rs c.args.stop) ≤ length c.args.out.now =
    omega (arith, length-append (flat_map (record_line g.R.Record.image) rs) (stop_line c.args.stop), length_lines g.R.Record.image w g.R.Record.sized rs) in
    let whole : take c.loop-record.record-index c.records-record-items.result.now ≡ rs =
    take_all c.loop-record.record-index c.records-record-items.result.now c.loop-record-test.false ∙ c.records-record-items.ensures in
    let lines : Adds (held c.new-text.result) (held c.loop-record.text) (flat_map (record_line g.R.Record.image) rs) =
    subst (λ xs. Adds (held c.new-text.result) (held c.loop-record.text) (flat_map (record_line g.R.Record.image) xs)) whole c.loop-record.invariant.adds in
    let a = adds_more (held c.new-text.result) (held c.loop-record.text) (held c.write_stop.new.text) _ _ lines c.write_stop.ensures.adds in
    let t = printed_through c.args.out.now c.write_stop.new.text.places.now (text_of g.R.Record.image rs c.args.stop) c.write_stop.new.text.used c.len-2.result
    (subst (λ l. Adds l (held c.write_stop.new.text) (text_of g.R.Record.image rs c.args.stop)) c.new-text.ensures.value a) f c.len-2.ensures in
    let lent = c.write_stop.ensures.lent ∙ c.loop-record.invariant.lent ∙ c.new-text.ensures.lent in
    search rules
