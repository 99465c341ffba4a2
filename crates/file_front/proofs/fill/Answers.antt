use Rattle.std.proofs.Common.{rules, ◌≡◌, ℕ, ◌+◌, ◌≤◌, List, ◌++◌, length, take, sym, ap, ◌∙◌, subst, length-take-le}
use Rattle.std.proofs.Math.Seq.{take-append-add}
use Rattle.std.proofs.lemmas.List.{take-append-le}
use Rattle.std.specs.Io.KnownBytes.{Consumes}
use Rattle.std.proofs.KnownBytes.{Consumes-trans}
use borrow.Rule.Slice.PartMut.{put_mid, post_of}
use Rattle.file_front.proofs.fill.Goals as goal

-- the front that is filled grows by what a read put behind it
grown : (a k m : ℕ) (xs ys : List ℕ) → a ≤ length xs → m ≤ length ys → take a xs ++ take m ys ≡ take (a + m) (put_mid a k xs ys)
grown a k m xs ys within fits =
    let after = ys ++ post_of a k xs in
    ap (λ l. take a xs ++ l) (sym (take-append-le m ys (post_of a k xs) fits))
    ∙ sym (take-append-add (take a xs) after m)
    ∙ ap (λ n. take (n + m) (take a xs ++ after)) (length-take-le a xs within)

pub loop-n-preserved : goal.loop-n-preserved
loop-n-preserved g c =
    let more = Consumes-trans _ _ _ _ _ c.loop-n.invariant.2 c.in_ok-more.ensures.bytes.0 in
    (search rules, search rules, subst (Consumes _ _) (grown _ _ _ _ _ c.loop-n.invariant.1 c.in_ok-more.ensures.bound.0) more)
