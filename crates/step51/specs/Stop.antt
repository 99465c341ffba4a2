-- The number with which a run stops before its last step.
use Rattle.std.specs.Prelude.{ℕ}
use Rattle.core51.specs.Faults.{number_of}
use Rattle.step51.specs.declared.stop.Stop.{Stop}
use Rattle.step51.specs.declared.stop.Stop.TheVariants.{TooManySteps, LogFull, Refused}

abbrev pub stop_number : Stop → ℕ
stop_number TooManySteps = 6
stop_number LogFull = 8
stop_number (Refused fault) = number_of fault
