-- What a call that can be refused answers, and the state that it leaves.
use Rattle.std.specs.Prelude.{Ok, Err, Result}

-- A definition answers the value and the new state together, or a refusal, which holds no state.
-- The call then answers the value or the refusal; a refused call leaves the state s as it was.
abbrev pub kept : {S R E : Type 0} → S → Result (R × S) E → Result R E × S
kept s (Ok x) = (Ok x.0, x.1)
kept s (Err e) = (Err e, s)

-- what follows an accepted call; a refusal is passed on
abbrev pub then : {A B E : Type 0} → Result A E → (A → Result B E) → Result B E
then (Ok x) k = k x
then (Err e) k = Err e
