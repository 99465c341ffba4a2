-- A file of records: their bytes one after the other, with no header.
use Rattle.std.specs.Prelude.{ℕ, zero, suc, ◌/◌, ◌%◌, Bool, cond, ◌&&◌, List, [], ◌∷◌, length, take, drop, Some, None, Ok, Err, Option, Result, ◌==◌, nat_le}
use Rattle.std.specs.List.{flat_map}
use Rattle.outcome.specs.Outcome.{then}
use Rattle.records.specs.declared.refusals.Refusal.{Refusal}
use Rattle.records.specs.declared.refusals.Refusal.TheVariants.{FileLength, CycleBelowTheOneBefore}
use Rattle.records.specs.Order.{in_order}
use Rattle.logs.specs.Log.{Entries, extend_of}

-- whole records, and at most 65,536 bytes
abbrev pub file_sized : ℕ → List ℕ → Bool
file_sized width bs = length bs % width == 0 && nat_le (length bs) 65536

-- the first n pieces of a file, each of so many bytes
abbrev pub pieces : ℕ → ℕ → List ℕ → List (List ℕ)
pieces width zero bs = []
pieces width (suc n) bs = take width bs ∷ pieces width n (drop width bs)

-- the records of all pieces; the first that is refused refuses them all
abbrev pub all_taken : {R : Type 0} → (List ℕ → Result R Refusal) → List (List ℕ) → Result (List R) Refusal
all_taken taken [] = Ok []
all_taken taken (p ∷ ps) = then (taken p) (λ r. then (all_taken taken ps) (λ rs. Ok (r ∷ rs)))

-- the record of one piece, if it is one
abbrev pub accepted : {R : Type 0} → Result R Refusal → List R
accepted (Ok r) = r ∷ []
accepted (Err e) = []

-- records in order, or the refusal of a cycle below the one before
abbrev pub ordered_records : {R : Type 0} → (R → R → Bool) → List R → Result (List R) Refusal
ordered_records ordered rs = cond (in_order ordered None rs) (Ok rs) (Err CycleBelowTheOneBefore)

-- the records of a whole file
abbrev pub file_records : {R : Type 0} → ℕ → (List ℕ → Result R Refusal) → (R → R → Bool) → List ℕ → Result (List R) Refusal
file_records width taken ordered bs =
    cond (file_sized width bs) (then (all_taken taken (pieces width (length bs / width) bs)) (ordered_records ordered)) (Err FileLength)

-- a log after a file is taken up
abbrev pub take_up_of : {R : Type 0} → ℕ → (List ℕ → Result R Refusal) → (R → R → Bool) → List ℕ → Entries R → Result (Unit × Entries R) Refusal
take_up_of width taken ordered bs l = then (file_records width taken ordered bs) (extend_of l)

-- the bytes of records, one after the other
abbrev pub file_bytes : {R : Type 0} → (R → List ℕ) → List R → List ℕ
file_bytes image rs = flat_map image rs

-- the bytes of one record, if it is there
abbrev pub image_at : {R A : Type 0} → (R → List A) → Option R → List A
image_at image None = []
image_at image (Some r) = image r
