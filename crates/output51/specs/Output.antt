-- The output of run51: the text of a run of 64 steps.
use Rattle.std.specs.Prelude.{ℕ, false, cond, ◌&&◌, List, [], take, replicate, Ok, Err, Result}
use Rattle.outcome.specs.Outcome.{then}
use Rattle.records.specs.declared.refusals.Refusal.{Refusal}
use Rattle.records.specs.declared.pins.PinRecord.{PinRecord}
use Rattle.records.specs.declared.ports.Port.TheVariants.{P0}
use Rattle.records.specs.declared.port_writes.PortRecord.{PortRecord}
use Rattle.records.specs.declared.traces.Cycles.TheVariants.{One}
use Rattle.records.specs.declared.traces.StepKind.TheVariants.{Instruction}
use Rattle.records.specs.declared.traces.TraceRecord.{TraceRecord}
use Rattle.records.specs.Refusal.{number_of}
use Rattle.records.specs.Pin.{pin_taken, pin_ordered}
use Rattle.records.specs.Trace.{trace_bytes}
use Rattle.logs.specs.Log.{Entries, empty}
use Rattle.record_files.specs.File.{file_records}
use Rattle.record_files.specs.Text.{text_of}
use Rattle.buses.specs.Memory.{Memory}
use Rattle.buses.specs.Buses.{split}
use Rattle.buses.specs.Refusals.{has_size}
use Rattle.boards.specs.Board.{Pins}
use Rattle.boards.specs.Script.{Playback, load_of, script_next}
use Rattle.step51.specs.World.{world}
use Rattle.step51.specs.Reset.{fresh_state}
use Rattle.step51.specs.Run.{Session, session, run_of}

-- of each file only the first 4,096 bytes count
abbrev pub front : List ℕ → List ℕ
front file = take 4096 file

-- logs of 64 places, with whatever the places hold
abbrev pub trace_log : Entries TraceRecord
trace_log = empty (replicate 64 (record { kind = Instruction 0; pc = 0; cycles = One; marks = record { low = false; high = false }; accumulator = 0 }))

abbrev pub port_log : Entries PortRecord
port_log = empty (replicate 64 (record { port = P0; byte = 0; step = 0 }))

-- a run of 64 of a new core on a bus and a script board, into this trace log
abbrev pub ran_into : Entries TraceRecord → Memory → Pins Playback → (ℕ × ℕ) × Session Playback
ran_into traces m board = run_of script_next 64 (session (world (fresh_state (replicate 128 0)) m board) traces port_log)

-- the same on a board that plays these records, unless they are refused
abbrev pub traced_into : Entries TraceRecord → Memory → List PinRecord → Result ((ℕ × ℕ) × Session Playback) Refusal
traced_into traces m records = then (load_of records) (λ board. Ok (ran_into traces m board.1))

-- the same with the records of a file, unless it is refused
abbrev pub pins_traced_into : Entries TraceRecord → Memory → List ℕ → Result ((ℕ × ℕ) × Session Playback) Refusal
pins_traced_into traces m file = then (file_records 8 pin_taken pin_ordered file) (traced_into traces m)

-- the three into an empty log
abbrev pub ran : Memory → Pins Playback → (ℕ × ℕ) × Session Playback
ran = ran_into trace_log

abbrev pub traced : Memory → List PinRecord → Result ((ℕ × ℕ) × Session Playback) Refusal
traced = traced_into trace_log

abbrev pub pins_traced : Memory → List ℕ → Result ((ℕ × ℕ) × Session Playback) Refusal
pins_traced = pins_traced_into trace_log

-- a line a trace record and the number that stopped the run; a refusal has the last line only
abbrev pub text : Result ((ℕ × ℕ) × Session Playback) Refusal → List ℕ
text (Ok r) = text_of trace_bytes r.1.traces.made r.0.1
text (Err e) = text_of trace_bytes [] (number_of e)

-- the text of a run on a split bus; a memory of no byte is refused with 1, before the pin file is looked at
abbrev pub split_text : List ℕ → List ℕ → List ℕ → List ℕ
split_text code store pins = cond (has_size code && has_size store) (text (pins_traced (split code store) pins)) (text_of trace_bytes [] 1)

-- the output from the two files, with 256 data bytes 00H
abbrev pub output_of : List ℕ → List ℕ → List ℕ
output_of code pins = split_text (front code) (replicate 256 0) (front pins)
