use Rattle.std.proofs.Common.{sym, refl}
use Rattle.outcome.proofs.Kept.{kept_ok}
use Rattle.execute51.specs.Execute.{perform_of}
use Rattle.execute51.proofs.execute.perform.Goals as goal

pub returns : goal.returns
unfolding perform_of
returns g c =
    let made = kept_ok _ _ _ _ c.in_ok-answer.ensures in
    rw (c.port_write.ensures, c.commit.ensures, sym c.operands.ensures, sym c.in_ok-places.ensures, sym c.target_byte.ensures, sym c.read.ensures, made) refl
