use Rattle.arithmetic.proofs.Meaning.{bits_stand, flags_stand, bits_rotate}
use Rattle.arithmetic.proofs.laws.bits_mean.Goals as goal

pub returns-clause-bits : goal.returns-clause-bits
returns-clause-bits c = bits_stand

pub returns-clause-flags : goal.returns-clause-flags
returns-clause-flags c = flags_stand

pub returns-clause-rotates : goal.returns-clause-rotates
returns-clause-rotates c = bits_rotate
