-- What a board means: four level bytes and four driven bytes, one a port, and a state of its own.
use Rattle.std.specs.Prelude.{ℕ, cond, List, nat_lt, slice_index, slice_set}

pub record Pins (S : Type 0) : Type 0 where
  pub levels : List ℕ
  pub driven : List ℕ
  pub own : S

-- a port number above 3 reads FFH
abbrev pub level_of : {S : Type 0} → Pins S → ℕ → ℕ
level_of b port = cond (nat_lt port 4) (slice_index b.levels port) 255

-- a port number above 3 drives nothing
abbrev pub drive_of : {S : Type 0} → Pins S → ℕ → ℕ → Pins S
drive_of b port byte = record {
  levels = b.levels;
  driven = cond (nat_lt port 4) (slice_set b.driven port byte) b.driven;
  own = b.own;
}
