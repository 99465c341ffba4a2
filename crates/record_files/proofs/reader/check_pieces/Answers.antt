use Rattle.std.proofs.Common.{◌≡◌, ◌<◌, cond, ◌&&◌, length, Ok, Err, sym, ap, ◌∙◌, subst}
use Rattle.std.specs.Slice.Iter.{chunks_exact_rest}
use Rattle.std.proofs.lemmas.Result.{err_from_is_err_and}
use Rattle.records.specs.declared.refusals.Refusal.TheVariants.{CycleBelowTheOneBefore}
use Rattle.record_files.specs.File.{all_taken}
use Rattle.record_files.proofs.Reading.{all_pieces, judged_piece, refused_piece, judged_all, judged_whole}
use Rattle.record_files.proofs.reader.check_pieces.Goals as goal

pub loop-piece-preserved : goal.loop-piece-preserved
loop-piece-preserved g c =
    let inv = c.loop-piece.invariant in
    let step = c.in-Some.ensures.steps in
    let n : length c.in-Some.piece.now ≡ g.R.Record.WIDTH = step.1.1 ∙ inv.1 in (
      subst (λ k. 0 < k) (sym step.0) inv.0,
      step.0 ∙ inv.1,
      inv.2 ∙ judged_piece g.R.Record.ordered g.R.Record.taken g.R.Record.WIDTH g.R.Record.wide
          c.loop-piece.ordered (c.loop-piece.ordered && c.follows-ordered.result) c.loop-piece.before c.in_ok-record.record
          c.in-Some.piece.now (chunks_exact_rest c.next.new.self) (chunks_exact_rest c.loop-piece.piece-iterator)
          n step.1.0 c.in_ok-record.ensures.value (ap (λ b. c.loop-piece.ordered && b) c.follows-ordered.ensures),
    )

pub returns-in_err-record : goal.returns-in_err-record
returns-in_err-record g c =
    let inv = c.loop-piece.invariant in
    let step = c.in-Some.ensures.steps in
    let n : length c.in-Some.piece.now ≡ g.R.Record.WIDTH = step.1.1 ∙ inv.1 in
    let p = err_from_is_err_and c.from_residual.result c.from_residual.ensures.1 in
    p.1 ∙ ap Err p.2 ∙ sym (judged_all g.R.Record.ordered (all_taken g.R.Record.taken (all_pieces g.R.Record.WIDTH c.args.file.now))
    ∙ inv.2
    ∙ refused_piece g.R.Record.ordered g.R.Record.taken g.R.Record.WIDTH g.R.Record.wide c.loop-piece.ordered c.loop-piece.before
    c.in_err-record.field-0.0 c.in-Some.piece.now (chunks_exact_rest c.next.new.self) (chunks_exact_rest c.loop-piece.piece-iterator)
    n step.1.0 c.in_err-record.ensures.value)

pub returns-then-ordered : goal.returns-then-ordered
returns-then-ordered g c =
    let inv = c.loop-piece.invariant in
    ap (λ b. cond b (Ok tt) (Err CycleBelowTheOneBefore)) (sym c.if-ordered.true)
    ∙ judged_whole g.R.Record.ordered g.R.Record.taken g.R.Record.WIDTH g.R.Record.wide c.loop-piece.ordered c.loop-piece.before c.args.file.now
    (chunks_exact_rest c.loop-piece.piece-iterator) (subst (λ k. length (chunks_exact_rest c.loop-piece.piece-iterator) < k) inv.1 c.in-None.ensures.steps.1.0) inv.2

pub returns-else-ordered : goal.returns-else-ordered
returns-else-ordered g c =
    let inv = c.loop-piece.invariant in
    ap (λ b. cond b (Ok tt) (Err CycleBelowTheOneBefore)) (sym c.if-ordered.false)
    ∙ judged_whole g.R.Record.ordered g.R.Record.taken g.R.Record.WIDTH g.R.Record.wide c.loop-piece.ordered c.loop-piece.before c.args.file.now
    (chunks_exact_rest c.loop-piece.piece-iterator) (subst (λ k. length (chunks_exact_rest c.loop-piece.piece-iterator) < k) inv.1 c.in-None.ensures.steps.1.0) inv.2
