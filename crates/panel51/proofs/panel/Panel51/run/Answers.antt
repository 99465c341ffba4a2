use Rattle.std.proofs.Common.{◌≡◌, ℕ, sym, refl, ◌∙◌, subst, arith}
use Rattle.boards.specs.Board.{Pins}
use Rattle.step51.specs.Run.{Session, run_of}
use Rattle.history51.specs.Agrees.{RunLives}
use Rattle.history51.proofs.Lives.{lives}
use Rattle.history51.proofs.Runs.{run_lives}
use Rattle.panel51.proofs.Runs.{run_on, run_stop, run_end, run_above, run_within}
use Rattle.panel51.proofs.panel.Panel51.run.Goals as goal

-- whatever the contract's equation says is the run of the law
same_run : {S : Type 0} (next : Pins S → Pins S) (s : Session S) (n : ℕ) (r : (ℕ × ℕ) × Session S) → r ≡ run_of next n s → RunLives next s n r
same_run next s n r e = subst (RunLives next s n) (sym e) (run_lives next s n)

pub returns-then-n-gt-MOST_STEPS : goal.returns-then-n-gt-MOST_STEPS
returns-then-n-gt-MOST_STEPS g c =
    let next = g.D.Board.next in
    let e = sym (run_above next c.args.n c.from.result _ (omega arith) c.from.ensures) in
    record { value = e; lent = (refl, refl); lives = lives next; history = same_run next _ c.args.n _ e }

pub returns-in-Err : goal.returns-in-Err
returns-in-Err g c =
    let next = g.D.Board.next in
    let e = sym (run_within next c.args.n _ (omega arith) ∙ (c.loop-i.invariant.0
    ∙ run_stop next c.args.n c.loop-i.i c.from-in-Err.result _ _ c.in-Err.stop c.loop-i-test.true c.from-in-Err.ensures c.in-Err.ensures.value)) in
    record {
      value = e;
      lent = (c.in-Err.ensures.lent.0 ∙ c.loop-i.invariant.1, c.in-Err.ensures.lent.1 ∙ c.loop-i.invariant.2);
      lives = lives next;
      history = same_run next _ c.args.n _ e;
    }

pub loop-i-preserved : goal.loop-i-preserved
loop-i-preserved g c = (
  c.loop-i.invariant.0 ∙ run_on g.D.Board.next c.args.n c.loop-i.i _ _ c.loop-i-test.true c.in-Ok.ensures.value,
  c.in-Ok.ensures.lent.0 ∙ c.loop-i.invariant.1,
  c.in-Ok.ensures.lent.1 ∙ c.loop-i.invariant.2,
)

pub returns : goal.returns
returns g c =
    let next = g.D.Board.next in
    let e = sym (run_within next c.args.n _ (omega arith) ∙ (c.loop-i.invariant.0
    ∙ run_end next c.args.n c.loop-i.i _ c.loop-i.auto.i-end c.loop-i-test.false)) in
    record { value = e; lent = (c.loop-i.invariant.1, c.loop-i.invariant.2); lives = lives next; history = same_run next _ c.args.n _ e }
