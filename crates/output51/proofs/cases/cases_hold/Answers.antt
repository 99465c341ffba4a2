use Rattle.std.proofs.Common.{refl}
use Rattle.step51.specs.Run.{run_of}
use Rattle.execute51.proofs.Computed.{calls, ports}
use Rattle.output51.proofs.Computed.{output_case, add_overflow, add_carry, overflows}
use Rattle.output51.proofs.cases.cases_hold.Goals as goal

pub returns : goal.returns
unfolding run_of
returns g c = record {
  output = output_case;
  add_overflow = add_overflow;
  add_carry = add_carry;
  calls = calls;
  overflows = overflows;
  ports = ports;
  higher_level = refl;
  no_step = λ s. refl;
}
