use Rattle.std.proofs.Common.{◌≡◌, ℕ, Bool, true, false, cond, ◌&&◌, List, [], length, replicate, Ok, Err, Result, refl, ap, ◌∙◌, arith, length-take}
use Rattle.outcome.specs.Outcome.{kept}
use Rattle.records.specs.declared.refusals.Refusal.{Refusal}
use Rattle.records.specs.declared.traces.TraceRecord.{TraceRecord}
use Rattle.records.specs.Trace.{trace_bytes}
use Rattle.logs.specs.Log.{Entries, held}
use Rattle.record_files.specs.Text.{text_of, printed}
use Rattle.buses.specs.declared.refusal.Refusal.TheVariants.{MemorySize}
use Rattle.buses.specs.Buses.{split}
use Rattle.buses.specs.Refusals.{has_size}
use Rattle.boards.specs.Script.{Playback}
use Rattle.step51.specs.Run.{Session}
use Rattle.output51.specs.declared.output.NotRun.{NotRun}
use Rattle.output51.specs.declared.output.NotRun.TheVariants.{Bus}
use Rattle.output51.specs.Output.{front, text, trace_log, pins_traced, split_text}
use Rattle.output51.specs.Logged.{answered, logged, by_pins, split_logged}
use Rattle.output51.proofs.output.write_output.Goals as goal

-- what a run that answers these leaves to be written
abbrev left : Result ℕ NotRun × Entries TraceRecord → List ℕ
left x = text_of trace_bytes x.1.made (answered x.0)

-- the text of the log and of the number is the text of the run
logged_text : (sized : Bool) (x : Result ((ℕ × ℕ) × Session Playback) Refusal)
    → left (kept trace_log (cond sized (by_pins (logged x)) (Err (Bus MemorySize)))) ≡ cond sized (text x) (text_of trace_bytes [] 1)
logged_text true (Ok r) = refl
logged_text true (Err e) = refl
logged_text false x = refl

pub run_files-stop-requires : goal.run_files-stop-requires
run_files-stop-requires c = omega (arith, ap length c.front-2.ensures, length-take 4096 c.args.pins.now)

pub returns : goal.returns
returns c =
    let out = c.args.out.now in
    let code = c.front.result.now in
    let pins = c.front-2.result.now in
    let store = replicate 256 0 in
    let ran : (c.run_files-stop.result, held c.run_files-stop.new.traces) ≡ kept trace_log (split_logged trace_log code store pins) =
    c.run_files-stop.ensures ∙ ap (λ l. kept l (split_logged l code store pins)) c.new-traces.ensures.value in
    c.write_text.ensures
    ∙ ap (λ n. kept out (printed (text_of trace_bytes (held c.run_files-stop.new.traces).made n) out)) c.stop_number.ensures
    ∙ ap (λ x. kept out (printed (left x) out)) ran
    ∙ ap (λ t. kept out (printed t out)) (logged_text (has_size code && has_size store) (pins_traced (split code store) pins))
    ∙ ap (λ code. kept out (printed (split_text code store pins) out)) c.front.ensures
    ∙ ap (λ pins. kept out (printed (split_text (front c.args.code.now) store pins) out)) c.front-2.ensures
