use lib.Ieee.{div, of_bits}
use native.Mathlib.Omega.{arith}
use Rattle.recording_numbers.proofs.Floats.{no_nan, a_nan}
use Rattle.recording_numbers.proofs.float_of.Goals as goal

-- `recording_numbers::float_of` meets its contract.

-- Assumes nothing.

pub returns-then-bits-gt2139095040 : goal.returns-then-bits-gt2139095040
unfolding div of_bits
returns-then-bits-gt2139095040 c = a_nan c.before.args.bits (omega arith)

pub float_from_bits-result : goal.float_from_bits-result
float_from_bits-result c = no_nan _ (omega arith)
