-- What a run leaves in its trace log, and the number that stopped it.
use Rattle.std.specs.Prelude.{ℕ, cond, ◌&&◌, List, Ok, Err, Result}
use Rattle.outcome.specs.Outcome.{then}
use Rattle.records.specs.declared.refusals.Refusal.{Refusal}
use Rattle.records.specs.declared.traces.TraceRecord.{TraceRecord}
use Rattle.records.specs.Refusal.{number_of}
use Rattle.logs.specs.Log.{Entries}
use Rattle.buses.specs.Buses.{split}
use Rattle.buses.specs.Refusals.{has_size, number_of as bus_number_of}
use Rattle.buses.specs.declared.refusal.Refusal.TheVariants.{MemorySize}
use Rattle.boards.specs.Script.{Playback}
use Rattle.step51.specs.Run.{Session}
use Rattle.output51.specs.declared.output.NotRun.{NotRun}
use Rattle.output51.specs.declared.output.NotRun.TheVariants.{Bus, Pins}
use Rattle.output51.specs.Output.{pins_traced_into}

abbrev pub not_run_number : NotRun → ℕ
not_run_number (Bus refusal) = bus_number_of refusal
not_run_number (Pins refusal) = number_of refusal

abbrev pub answered : Result ℕ NotRun → ℕ
answered (Ok stop) = stop
answered (Err e) = not_run_number e

-- the number that stopped a run, and its trace log
abbrev pub logged : Result ((ℕ × ℕ) × Session Playback) Refusal → Result (ℕ × Entries TraceRecord) Refusal
logged r = then r (λ x. Ok (x.0.1, x.1.traces))

-- a refused pin file
abbrev pub by_pins : {A : Type 0} → Result A Refusal → Result A NotRun
by_pins (Ok x) = Ok x
by_pins (Err e) = Err (Pins e)

-- into a trace log, on a split bus; a memory of no byte is refused before the pin file is looked at
abbrev pub split_logged : Entries TraceRecord → List ℕ → List ℕ → List ℕ → Result (ℕ × Entries TraceRecord) NotRun
split_logged traces code store pins = cond (has_size code && has_size store) (by_pins (logged (pins_traced_into traces (split code store) pins))) (Err (Bus MemorySize))
