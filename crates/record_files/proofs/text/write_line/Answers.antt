use Rattle.std.proofs.Common.{[], ◌∷◌, ◌∙◌, rules}
use Rattle.std.specs.List.{flat_map}
use Rattle.logs.specs.Log.{held, Adds}
use Rattle.record_files.specs.Text.{hex_byte}
use Rattle.logs.proofs.Growth.{adds_more, adds_all}
use Rattle.record_files.proofs.text.write_line.Goals as goal

pub returns : goal.returns
returns g c =
    let image = g.R.Record.image c.args.record.now in
    let hex : Adds (held c.args.text.now) (held c.write_hex.new.text) (flat_map hex_byte image) = search rules in
    let end : Adds (held c.write_hex.new.text) (held c.extend.new.self) (10 ∷ []) =
    adds_all (held c.write_hex.new.text) (held c.extend.new.self) (10 ∷ []) c.extend.result c.extend.ensures.value in
    record {
      adds = adds_more (held c.args.text.now) (held c.write_hex.new.text) (held c.extend.new.self) (flat_map hex_byte image) (10 ∷ []) hex end;
      lent = c.extend.ensures.lent ∙ c.write_hex.ensures.lent;
    }
