-- A turn of a run is what its steps make.
use Rattle.std.proofs.Common.{◌≡◌, ℕ, refl}
use Rattle.boards.specs.Board.{Pins}
use Rattle.step51.specs.Run.{Session, turn_of, turn_steps}

-- for the check, which looks into no sealed name of another crate
pub turned : {S : Type 0} (next : Pins S → Pins S) (i : ℕ) (s : Session S) → turn_of next i s ≡ turn_steps next i s
unfolding turn_of
turned next i s = refl
