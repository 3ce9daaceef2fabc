use mathlib.Core.Path.{refl}
use native.Mathlib.Omega.{arith}
use Rattle.operators.proofs.GatherLaws.{bounds}
use Rattle.operators.proofs.galerkin.Rows.places.Goals as goal

pub overflow_add-first-2 : goal.overflow_add-first-2
overflow_add-first-2 c = omega (arith, (bounds c.requires.stored _ c.requires.low).rise, (bounds c.requires.stored _ c.requires.low).few, c.requires.stored.low)

pub overflow_add-last-3 : goal.overflow_add-last-3
overflow_add-last-3 c = omega (arith, (bounds c.requires.stored _ c.requires.low).few, c.requires.stored.low)

pub returns : goal.returns
returns c = record { first_is = refl; last_is = refl }
