-- The modulus of a number whose imaginary part is zero: |re|, which is exact. The joining test of specs/Line.antt squares in its place.
-- Assumes nothing.
use Rattle.std.specs.Prelude.{false, Float}
use Rattle.std.specs.Float.{nan, inf, fin}

-- |x|: the sign cleared
unfoldable pub abs_f : Float → Float
abs_f nan = nan
abs_f (inf s) = inf false
abs_f (fin s m e) = fin false m e
