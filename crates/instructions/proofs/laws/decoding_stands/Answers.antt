use Rattle.instructions.proofs.TablesHold.{reserved_holds, refused_hold, sizes_hold, unpolled_hold}
use Rattle.instructions.proofs.laws.decoding_stands.Goals as goal

pub returns : goal.returns
returns c = record { reserved = reserved_holds; refused = refused_hold; sizes = sizes_hold; unpolled = unpolled_hold }
