use Rattle.std.proofs.Common.{◌≡◌, true, [], refl, ap, ◌∙◌, rules}
use Rattle.boards.specs.Script.{cycles_in_order, due_before, put_levels}
use Rattle.boards.proofs.Due.{advances, plays}
use Rattle.boards.proofs.playback.Script.load.Goals as goal

pub invariant_of-self : goal.invariant_of-self
invariant_of-self c =
    let rs = c.args.records.now in
    let o : cycles_in_order rs ≡ true = search rules in
    let start = advances 0 [] rs rs o refl refl in
    record {
      ordered = o;
      passed = rw c.advance.ensures.rest start.passed;
      current = c.advance.ensures.levels ∙ ap (λ p. put_levels p.levels (due_before 0 rs)) c.new.ensures ∙ start.current;
    }

pub returns-then-not-in_order-clause-plays : goal.returns-then-not-in_order-clause-plays
returns-then-not-in_order-clause-plays c = plays c.args.records.now

pub returns-clause-plays : goal.returns-clause-plays
returns-clause-plays c = plays c.args.records.now
