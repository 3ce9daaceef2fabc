use native.Mathlib.Omega.{arith}
use Rattle.operators.proofs.GatherLaws.{bounds, row_gathered}
use Rattle.operators.proofs.galerkin.add_column.Goals as goal

pub add_forward-requires : goal.add_forward-requires
add_forward-requires c =
    let b = bounds c.requires.stored _ c.requires.low in
    (omega (arith, b.room, c.places-at.ensures.last_is), omega (arith, b.numbers, c.places-at.ensures.last_is))

pub returns : goal.returns
returns c = row_gathered _ _ _ _ _ _ _ c.places-at.ensures.first_is c.places-at.ensures.last_is c.add_forward.ensures
