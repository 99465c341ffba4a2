-- The parts of the machine keep their laws, and so it keeps the promise.
use Rattle.std.proofs.Common.{List, refl, arith}
use Rattle.boards.specs.Board.{Pins}
use Rattle.step51.specs.World.{World}
use Rattle.step51.specs.Reset.{new_world}
use Rattle.history.specs.Cycles.{PartsLaw}
use Rattle.history.proofs.Theorem.{by_cycles}
use Rattle.history.specs.Machine.{Call}
use Rattle.history51.specs.Life.{parts, living, Promised}
use Rattle.history51.proofs.Samples.{tick_law}
use Rattle.history51.proofs.Polls.{poll_law}
use Rattle.history51.proofs.Changes.{change_law}

module _ {S : Type 0} (next : Pins S → Pins S) where
  parts_law : PartsLaw (parts next) 1 4 2
  parts_law = record {
    in_order = omega arith;
    reset_quiet = λ w. record { no_request = refl; disabled = λ s. refl };
    reset_memory = λ w a. refl;
    change_law = change_law;
    tick_law = tick_law next;
    poll_law = poll_law;
    settle_law = λ w. refl;
  }

  pub promised : (start : World S) (calls : List Call) → Promised next start calls
  unfolding living
  promised start calls = by_cycles (parts next) 1 4 2 parts_law (new_world start) (record { no_request = refl; disabled = λ s. refl }) calls
