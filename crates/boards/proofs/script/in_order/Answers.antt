use Rattle.std.proofs.Common.{rules, Some}
use Rattle.std.specs.Ordering.{nat_cmp, is_le, is_some_and}
use Rattle.boards.proofs.Due.{in_order_answered}
use Rattle.std.proofs.lemmas.Fn.{always_returns_same}
use Rattle.boards.proofs.script.in_order.Goals as goal

pub returns : goal.returns
returns c = in_order_answered c.args.records.now _ (c.is_sorted_by.ensures.cases (λ x y. is_some_and is_le (Some (nat_cmp x.cycle y.cycle))) (always_returns_same _ _ _ (λ a r q k. search rules)))
