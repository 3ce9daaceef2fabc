use Rattle.std.proofs.Common.{refl}
use lib.Ieee.{nan_bits, of_bits, to_bits}
use Rattle.numbers.specs.Complex.{finite_double}
use Rattle.case_lines.proofs.shown.F64Number.mark.Goals as goal

-- the mark's pattern is not a NaN's
pub float_from_bits-result : goal.float_from_bits-result
unfolding nan_bits
float_from_bits-result c = tt

-- and is that of a finite double
pub returns : goal.returns
unfolding finite_double of_bits to_bits
returns c = refl
