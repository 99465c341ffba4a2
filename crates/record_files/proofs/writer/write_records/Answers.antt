use Rattle.std.proofs.Common.{◌≡◌, ◌*◌, ◌/◌, ◌<◌, ◌≤◌, true, false, ltb, ◌++◌, length, take, drop, ap, ◌∙◌, subst, div-lt_iff_lt-mul, le-div_iff_mul-le, arith, rules}
use Rattle.std.proofs.lemmas.List.{take_all}
use Rattle.record_files.specs.File.{file_bytes}
use Rattle.logs.specs.Log.{held, Adds}
use Rattle.record_files.proofs.Writing.{adds_item, length_joined, written_through}
use Rattle.record_files.proofs.writer.write_records.Goals as goal

pub returns-then-out-WIDTH : goal.returns-then-out-WIDTH
returns-then-out-WIDTH g c =
    let n = length_joined g.R.Record.image g.R.Record.WIDTH g.R.Record.sized (held c.args.log.now).made in
    let d = ap (λ k. length c.args.out.now / k) c.WIDTH.ensures in
    let h : length c.args.out.now / g.R.Record.WIDTH < length (held c.args.log.now).made = omega (arith, d) in
    let l : length c.args.out.now < length (held c.args.log.now).made * g.R.Record.WIDTH = (div-lt_iff_lt-mul g.R.Record.wide).0 h in
    let z : ltb (length c.args.out.now) (length (file_bytes g.R.Record.image (held c.args.log.now).made)) ≡ true = search rules in
    simp z

pub loop-record-preserved : goal.loop-record-preserved
loop-record-preserved g c = record {
  adds = adds_item g.R.Record.image c.records-record-items.result.now c.loop-record.record-index c.record-item.result (held c.new-bytes.result) (held c.loop-record.bytes) (held c.write_image.new.bytes)
      c.loop-record-test.true c.record-item.is c.loop-record.invariant.adds c.write_image.ensures.adds;
  lent = c.write_image.ensures.lent ∙ c.loop-record.invariant.lent;
}

pub returns : goal.returns
returns g c =
    let n = length_joined g.R.Record.image g.R.Record.WIDTH g.R.Record.sized (held c.args.log.now).made in
    let d = ap (λ k. length c.args.out.now / k) c.WIDTH.ensures in
    let h : length (held c.args.log.now).made ≤ length c.args.out.now / g.R.Record.WIDTH = omega (arith, d) in
    let l : length (held c.args.log.now).made * g.R.Record.WIDTH ≤ length c.args.out.now = (le-div_iff_mul-le g.R.Record.wide).0 h in
    let z : ltb (length c.args.out.now) (length (file_bytes g.R.Record.image (held c.args.log.now).made)) ≡ false = search rules in
    let rs = (held c.args.log.now).made in
    let whole : take c.loop-record.record-index c.records-record-items.result.now ≡ rs =
    take_all c.loop-record.record-index c.records-record-items.result.now c.loop-record-test.false ∙ c.records-record-items.ensures in
    let a : Adds (held c.new-bytes.result) (held c.loop-record.bytes) (file_bytes g.R.Record.image rs) =
    subst (λ xs. Adds (held c.new-bytes.result) (held c.loop-record.bytes) (file_bytes g.R.Record.image xs)) whole c.loop-record.invariant.adds in
    let t : c.loop-record.bytes.places.now ≡ file_bytes g.R.Record.image rs ++ drop (length (file_bytes g.R.Record.image rs)) c.args.out.now
    = written_through c.args.out.now c.loop-record.bytes.places.now _ c.loop-record.bytes.used (subst (λ l. Adds l (held c.loop-record.bytes) (file_bytes g.R.Record.image rs)) c.new-bytes.ensures.value a) (omega arith) in
    let lent = c.loop-record.invariant.lent ∙ c.new-bytes.ensures.lent in
    simp z (search rules)
