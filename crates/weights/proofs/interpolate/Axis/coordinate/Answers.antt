use Rattle.weights.proofs.InterpolateLaws.{coordinate_in, coordinate_past, coordinate_place}
use lib.Ieee.{div, of_bits}
use mathlib.Core.Path.{◌∙◌}
use Rattle.weights.proofs.interpolate.Axis.coordinate.Goals as goal

pub returns-then-p-lt129 : goal.returns-then-p-lt129
returns-then-p-lt129 c = c.get.ensures ∙ coordinate_in _ _ _ c.in-Pml.is c.if-p-lt129.true

pub returns-else-p-lt129 : goal.returns-else-p-lt129
unfolding div of_bits
returns-else-p-lt129 c = coordinate_past _ _ _ c.in-Pml.is c.if-p-lt129.false

pub returns-in-Bloch : goal.returns-in-Bloch
returns-in-Bloch c = coordinate_place _ _ c.in-Bloch.is
