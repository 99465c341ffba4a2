use Rattle.std.proofs.Common.{◌≡◌, ◌/◌, ◌<◌, true, length, sym, ap, ◌∙◌, subst, arith, rules}
use Rattle.std.specs.List.{flat_map}
use Rattle.std.specs.Slice.Iter.{chunks_exact_rest}
use Rattle.record_files.specs.File.{accepted, file_sized}
use Rattle.logs.specs.Log.{held, Adds}
use Rattle.logs.proofs.Growth.{adds_none, adds_more}
use Rattle.record_files.proofs.Reading.{one_piece, no_piece, no_room, taken_up}
use Rattle.record_files.proofs.reader.take_up.Goals as goal

pub loop-piece-preserved : goal.loop-piece-preserved
loop-piece-preserved g c =
    let inv = c.loop-piece.invariant in
    let step = c.in-Some.ensures.steps in
    let n : length c.in-Some.piece.now ≡ g.R.Record.WIDTH = step.1.1 ∙ inv.1 in (
      subst (λ k. 0 < k) (sym step.0) inv.0,
      step.0 ∙ inv.1,
      (λ end rest. inv.2 end
          (subst (λ ps. Adds (held c.loop-piece.log) end (flat_map (λ p. accepted (g.R.Record.taken p)) ps))
          (sym (one_piece g.R.Record.WIDTH c.in-Some.piece.now (chunks_exact_rest c.next.new.self) (chunks_exact_rest c.loop-piece.piece-iterator) g.R.Record.wide n step.1.0))
          (adds_more (held c.loop-piece.log) (held c.enter_piece.new.log) end _ _ c.enter_piece.ensures.adds rest))),
      c.enter_piece.ensures.lent ∙ inv.3,
    )

pub returns-then-room-file-clause-value : goal.returns-then-room-file-clause-value
returns-then-room-file-clause-value g c =
    let s : file_sized g.R.Record.WIDTH c.args.file.now ≡ true = search rules in
    let d = ap (λ k. length c.args.file.now / k) c.WIDTH-2.ensures in
    no_room g.R.Record.ordered g.R.Record.taken g.R.Record.WIDTH c.args.file.now (held c.args.log.now) s c.in_ok-check_pieces.ensures (omega (arith, d))

pub returns-clause-value : goal.returns-clause-value
returns-clause-value g c =
    let inv = c.loop-piece.invariant in
    let step = c.in-None.ensures.steps in
    let s : file_sized g.R.Record.WIDTH c.args.file.now ≡ true = search rules in
    let d = ap (λ k. length c.args.file.now / k) c.WIDTH-2.ensures in
    taken_up g.R.Record.ordered g.R.Record.taken g.R.Record.WIDTH c.args.file.now (held c.args.log.now) s c.in_ok-check_pieces.ensures
    (held c.loop-piece.log) (omega (arith, d)) (inv.2 (held c.loop-piece.log)
    (subst (λ ps. Adds (held c.loop-piece.log) (held c.loop-piece.log) (flat_map (λ p. accepted (g.R.Record.taken p)) ps))
    (sym (no_piece g.R.Record.WIDTH (chunks_exact_rest c.loop-piece.piece-iterator) (subst (λ k. length (chunks_exact_rest c.loop-piece.piece-iterator) < k) inv.1 step.1.0)))
    (adds_none (held c.loop-piece.log))))
