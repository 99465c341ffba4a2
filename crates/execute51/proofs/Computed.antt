-- The worked cases, each computed.
use Rattle.std.proofs.Common.{refl}
use Rattle.instructions.specs.Decode.{decode_of}
use Rattle.core51.specs.Places.{get_of, put_of, latch_of, write_of}
use Rattle.execute51.specs.Effect.{effect_of}
use Rattle.execute51.specs.Fetch.{fetch_of}
use Rattle.execute51.specs.Execute.{perform_of, instruction_of, execute_of}
use Rattle.execute51.specs.Cases.{Calls, Ports}

pub calls : Calls
unfolding decode_of get_of put_of latch_of write_of effect_of fetch_of perform_of instruction_of execute_of
calls = (refl, refl, refl)

pub ports : Ports
unfolding decode_of get_of put_of latch_of write_of effect_of fetch_of perform_of instruction_of execute_of
ports = (refl, refl, refl)
