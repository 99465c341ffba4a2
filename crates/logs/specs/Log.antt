-- What a log holds: its records, and the free places after them with whatever they hold.
use Rattle.std.specs.Prelude.{◌≡◌, ℕ, ◌+◌, ◌≤◌, Bool, cond, List, [], ◌∷◌, ◌++◌, length, take, drop, Ok, Err, Option, Result, ◌==◌, nat_lt}
use Rattle.std.specs.List.{slice_get}
use Rattle.logs.specs.declared.log.Log.{Log}
use Rattle.records.specs.declared.refusals.Refusal.{Refusal}
use Rattle.records.specs.declared.refusals.Refusal.TheVariants.{LogFull, TooLittleRoom}

pub record Entries (R : Type 0) : Type 0 where
  pub made : List R
  pub free : List R

-- the first places are used, the others are free
abbrev pub entries : {R : Type 0} → List R → ℕ → Entries R
entries places used = record { made = take used places; free = drop used places }

abbrev pub held : {R : Type 0} → Log R → Entries R
held l = entries l.places.now l.used

-- a log that is made over a memory has all its places free
abbrev pub empty : {R : Type 0} → List R → Entries R
empty places = record { made = []; free = places }

abbrev pub capacity_of : {R : Type 0} → Entries R → ℕ
capacity_of l = length l.made + length l.free

abbrev pub full_of : {R : Type 0} → Entries R → Bool
full_of l = length l.free == 0

-- records more at the end, in the first free places
abbrev pub entered : {R : Type 0} → Entries R → List R → Entries R
entered l rs = record { made = l.made ++ rs; free = drop (length rs) l.free }

abbrev pub append_of : {R : Type 0} → Entries R → R → Result (Unit × Entries R) Refusal
append_of l r = cond (full_of l) (Err LogFull) (Ok (tt, entered l (r ∷ [])))

abbrev pub extend_of : {R : Type 0} → Entries R → List R → Result (Unit × Entries R) Refusal
extend_of l rs = cond (nat_lt (length l.free) (length rs)) (Err TooLittleRoom) (Ok (tt, entered l rs))

-- a log that was l is now l': with the records rs more, if there was room for them
abbrev pub Adds : {R : Type 0} → Entries R → Entries R → List R → Type 0
Adds l l' rs = length rs ≤ length l.free → l' ≡ entered l rs

-- the log still lends its memory, and has the records rs more, if there was room for them
pub record Extends {R : Type 0} (before after : Log R) (rs : List R) : Type 0 where
  pub adds : Adds (held before) (held after) rs
  pub lent : after.places.ghost_name ≡ before.places.ghost_name

-- the record at a place, counted from 0; past the last one there is none
abbrev pub entry_of : {R : Type 0} → Entries R → ℕ → Option R
entry_of l i = slice_get l.made i
