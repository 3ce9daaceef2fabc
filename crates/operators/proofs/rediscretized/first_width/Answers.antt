-- `operators::rediscretized::first_width` meets its contract.
-- Assumes nothing.
use native.Mathlib.Omega.{arith}
use Rattle.lattice.proofs.LevelLaws.{in_double}
use Rattle.operators.proofs.RediscretizedLaws.{first_wall, first_period}
use Rattle.operators.proofs.rediscretized.first_width.Goals as goal

pub offset_bounds-x-first : goal.offset_bounds-x-first
offset_bounds-x-first c = omega (arith, c.place-first.ensures, c.requires.tame.centres 0 (omega arith))

pub bounds-x-first : goal.bounds-x-first
bounds-x-first c = omega (arith, c.place-first.ensures, c.requires.tame.centres 0 (omega arith))

pub overflow_add-width : goal.overflow_add-width
overflow_add-width c = omega (arith, c.requires.tame.centres 0 (omega arith), c.requires.held.low c.args.f.cells (omega arith))

pub int_to_float-result : goal.int_to_float-result
int_to_float-result c = in_double _ (omega (arith, c.requires.tame.centres 0 (omega arith), c.requires.held.low c.args.f.cells (omega arith)))

pub returns-in-Pml : goal.returns-in-Pml
returns-in-Pml c = first_wall _ _ c.in-Pml.is c.place-first.ensures c.sub.ensures c.mul.ensures

pub returns-in-Bloch : goal.returns-in-Bloch
returns-in-Bloch c = first_period _ _ c.requires.held c.in-Bloch.is c.place-first.ensures c.place.ensures
