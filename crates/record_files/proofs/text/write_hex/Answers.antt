use Rattle.std.proofs.Common.{◌≡◌, ◌/◌, ◌<◌, [], ◌∷◌, get_or, ap, ◌∙◌, subst, arith, rules}
use Rattle.std.specs.List.{flat_map}
use Rattle.std.proofs.lemmas.List.{take_all}
use Rattle.std.proofs.lemmas.Option.{slice_get-get_or}
use Rattle.logs.specs.Log.{held, Adds}
use Rattle.record_files.specs.Text.{digit_of, hex_byte}
use Rattle.logs.proofs.Growth.{adds_all}
use Rattle.record_files.proofs.Writing.{adds_next}
use Rattle.record_files.proofs.text.write_hex.Goals as goal

pub loop-b-preserved : goal.loop-b-preserved
loop-b-preserved c =
    let b = get_or c.args.bytes.now c.loop-b.b-index 0 in
    let f : b < 256 = search rules in
    let h : c.digit.result ≡ digit_of (b / 16) = c.digit.ensures ∙ ap digit_of (omega arith) in
    let e : c.digit.result ∷ c.digit-in-loop-b.result ∷ [] ≡ hex_byte b =
    ap (λ x. x ∷ c.digit-in-loop-b.result ∷ []) h ∙ ap (λ y. digit_of (b / 16) ∷ y ∷ []) c.digit-in-loop-b.ensures in
    let two : Adds (held c.loop-b.text) (held c.extend.new.self) (c.digit.result ∷ c.digit-in-loop-b.result ∷ []) =
    adds_all (held c.loop-b.text) (held c.extend.new.self) _ c.extend.result c.extend.ensures.value in
    record {
      adds = adds_next hex_byte c.args.bytes.now c.loop-b.b-index b (held c.args.text.now) (held c.loop-b.text) (held c.extend.new.self)
          (slice_get-get_or c.args.bytes.now c.loop-b.b-index 0 c.loop-b-test.true)
          c.loop-b.invariant.adds (subst (Adds (held c.loop-b.text) (held c.extend.new.self)) e two);
      lent = c.extend.ensures.lent ∙ c.loop-b.invariant.lent;
    }

pub returns : goal.returns
returns c = record {
  adds = subst (λ bs. Adds (held c.args.text.now) (held c.loop-b.text) (flat_map hex_byte bs))
      (take_all c.loop-b.b-index c.args.bytes.now c.loop-b-test.false) c.loop-b.invariant.adds;
  lent = c.loop-b.invariant.lent;
}
