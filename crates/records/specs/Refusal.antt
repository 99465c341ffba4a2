-- The number of each refusal.
use Rattle.std.specs.Prelude.{ℕ}
use Rattle.records.specs.declared.refusals.Refusal.{Refusal}
use Rattle.records.specs.declared.refusals.Refusal.TheVariants.{FileLength, FieldOutsideLayout, CycleBelowTheOneBefore, TooLittleRoom, LogFull}

abbrev pub number_of : Refusal → ℕ
number_of FileLength = 3
number_of FieldOutsideLayout = 4
number_of CycleBelowTheOneBefore = 5
number_of TooLittleRoom = 7
number_of LogFull = 8
