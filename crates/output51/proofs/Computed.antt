-- The worked cases, each computed.
use Rattle.std.proofs.Common.{◌≡◌, [], ◌∷◌, Ok, refl}
use lib.Count.{ones, ones_in}
use Rattle.instructions.specs.Decode.{decode_of}
use Rattle.core51.specs.Places.{get_of, put_of, latch_of, write_of}
use Rattle.execute51.specs.Fetch.{fetch_of}
use Rattle.execute51.specs.Effect.{effect_of}
use Rattle.execute51.specs.Execute.{perform_of, instruction_of, execute_of}
use Rattle.cycles.specs.Cycle.{tick_of, ticked_of, polled_of, cycle_of, cycles_of}
use Rattle.cycles.specs.Vector.{vector_call_of}
use Rattle.cycles.specs.Laws.{Overflows}
use Rattle.step51.specs.Step.{act_of, begin_of, step_of}
use Rattle.step51.specs.Run.{turn_of, run_of}
use Rattle.output51.specs.Output.{output_of}
use Rattle.output51.specs.Cases.{code_file, pin_file, expected, added}

pub add_overflow : added 0x7f 0x01 ≡ Ok (0x80 ∷ 0 ∷ 1 ∷ 1 ∷ [])
unfolding ones ones_in decode_of get_of put_of latch_of write_of effect_of fetch_of perform_of instruction_of execute_of
add_overflow = refl

pub add_carry : added 0xff 0x01 ≡ Ok (0x00 ∷ 1 ∷ 1 ∷ 0 ∷ [])
unfolding ones ones_in decode_of get_of put_of latch_of write_of effect_of fetch_of perform_of instruction_of execute_of
add_carry = refl

pub overflows : Overflows
overflows = record {
  mode0_timer0 = λ old pins other. refl;
  mode0_timer1 = λ old pins other. refl;
  mode2_timer0 = λ old pins other. refl;
  mode2_timer1 = λ old pins other. refl;
}

pub output_case : output_of code_file pin_file ≡ expected
unfolding ones ones_in decode_of get_of put_of latch_of write_of effect_of fetch_of perform_of instruction_of execute_of tick_of ticked_of polled_of cycle_of cycles_of vector_call_of act_of begin_of step_of turn_of run_of
output_case = refl
