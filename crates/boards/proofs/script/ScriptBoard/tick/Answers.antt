use Rattle.std.proofs.Common.{◌≤◌, ◌++◌, sym, ap, ◌∙◌, arith}
use Rattle.boards.specs.Script.{in_force, last_levels, due_before, put_levels}
use Rattle.boards.proofs.Due.{advances_later, none_due}
use Rattle.boards.proofs.script.ScriptBoard.tick.Goals.{then-is_due, else-is_due}
use Rattle.boards.proofs.script.ScriptBoard.tick.Goals as goal

pub invariant_of-self : goal.invariant_of-self
invariant_of-self c =
    let s = c.args.self.now in
    let n = c.saturating_add-ticks.result in
    let h : s.ticks ≤ n = omega arith in
    let later = advances_later s.ticks n s.rest.now s.records.now h s.ordered s.passed in
    elim c.if-is_due.branch [
      | then-is_due w ↦
          rw w.self-is (record {
            ordered = s.ordered;
            passed = rw w.advance.ensures.rest later.passed;
            current = w.advance.ensures.levels ∙ ap (λ l. put_levels l (due_before n s.rest.now)) s.current ∙ later.current;
          })
      | else-is_due w ↦
          let none = none_due n s.rest.now (sym c.is_due.ensures ∙ w.if-is_due.false) in
          rw w.self-is (record {
            ordered = s.ordered;
            passed = ap (λ l. in_force n s.records.now ++ l) (sym none.1) ∙ later.passed;
            current = s.current ∙ ap (put_levels (last_levels (in_force s.ticks s.records.now))) (sym none.0) ∙ later.current;
          })
    ]
