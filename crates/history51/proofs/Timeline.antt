-- The two waits, computed.
use Rattle.std.proofs.Common.{◌≡◌, ℕ, true, ◌≢◌, List, [], ◌∷◌, ◌++◌, refl, ap}
use lib.Count.{ones, ones_in}
use Rattle.instructions.specs.Decode.{decode_of}
use Rattle.core51.specs.Places.{get_of, put_of, latch_of, write_of}
use Rattle.execute51.specs.Fetch.{fetch_of}
use Rattle.execute51.specs.Effect.{effect_of}
use Rattle.execute51.specs.Execute.{perform_of, instruction_of, execute_of}
use Rattle.cycles.specs.Cycle.{tick_of, ticked_of, polled_of}
use Rattle.cycles.specs.Vector.{vector_call_of}
use Rattle.step51.specs.Step.{act_of, begin_of}
use Rattle.boards.specs.Script.{script_next}
use Rattle.history.specs.Events.{plain, control, call, Moment, cycle, moments}
use Rattle.history.specs.Machine.{Run, history}
use Rattle.history.specs.Promise.{Asks, Waiting, goes_on, in_call, over}
use Rattle.history.specs.Laws.{called}
use Rattle.history.specs.Cycles.{machine}
use Rattle.history.specs.Marks.{some_none}
use Rattle.history51.specs.Life.{parts}
use Rattle.history51.specs.Timeline.{enable, start, asking, before, last_six, eight, Attains}

abbrev lived : List ℕ → ℕ → List Moment
lived more n = moments (history (machine (parts script_next)) (start more) (Run n 64 64 ∷ []))

six_lived : lived [] 5 ≡ before ++ (cycle plain true asking ∷ (last_six ++ []))
unfolding ones ones_in decode_of get_of put_of latch_of write_of effect_of fetch_of perform_of instruction_of execute_of tick_of ticked_of polled_of vector_call_of act_of begin_of
six_lived = refl

eight_lived : lived enable 6 ≡ before ++ (cycle plain true asking ∷ (eight ++ []))
unfolding ones ones_in decode_of get_of put_of latch_of write_of effect_of fetch_of perform_of instruction_of execute_of tick_of ticked_of polled_of vector_call_of act_of begin_of
eight_lived = refl

asks : Asks 1 1 asking
asks = (refl, refl, refl)

plain_goes : plain ≢ call 1
plain_goes e = some_none (ap called e) refl

control_goes : control ≢ call 1
control_goes e = some_none (ap called e) refl

six_waits : Waiting 1 1 last_six
six_waits = goes_on plain_goes asks (goes_on plain_goes asks (goes_on plain_goes asks (goes_on plain_goes asks (in_call over))))

pub attains : Attains
attains = (
  record {
    start = start [];
    quiet = record { no_request = refl; disabled = λ s. refl };
    calls = Run 5 64 64 ∷ [];
    source = 1;
    kind = plain;
    last = true;
    closing = asking;
    before = before;
    during = last_six;
    after = [];
    cut = six_lived;
    asks = asks;
    idle = refl;
    waiting = six_waits;
    cycles = refl;
    ended = refl;
  },
  record {
    start = start enable;
    quiet = record { no_request = refl; disabled = λ s. refl };
    calls = Run 6 64 64 ∷ [];
    source = 1;
    kind = plain;
    last = true;
    closing = asking;
    before = before;
    during = eight;
    after = [];
    cut = eight_lived;
    asks = asks;
    idle = refl;
    waiting = goes_on control_goes asks (goes_on control_goes asks six_waits);
    cycles = refl;
    ended = refl;
  },
)
