-- `operators::volumes::share_at` meets its contract.
-- Assumes nothing.
use native.Mathlib.Omega.{arith}
use Rattle.operators.proofs.VolumeLaws.{row_most, row_room, row_share}
use Rattle.operators.proofs.volumes.share_at.Goals as goal

pub places-at-requires : goal.places-at-requires
places-at-requires c = record { n = _; m = _; stored = c.requires.stored; low = c.requires.c_lt_m.0 }

pub share-requires-clause-last_in_bounds : goal.share-requires-clause-last_in_bounds
share-requires-clause-last_in_bounds c = let r = row_most c.requires.stored c.requires.c_lt_m.0 in
    omega (arith, c.requires.stored.columns_room, c.requires.stored.numbers_room, c.places-at.ensures.last_is)

pub share-requires-clause-shares_room : goal.share-requires-clause-shares_room
share-requires-clause-shares_room c =
    rw (c.places-at.ensures.first_is, c.places-at.ensures.last_is) (row_room c.requires.stored c.requires.c_lt_m.0 _ _ c.requires.c_lt_m.1 c.requires.c_lt_m.2)

pub returns : goal.returns
returns c = row_share c.requires.stored c.requires.c_lt_m.0 _ (rw (c.places-at.ensures.first_is, c.places-at.ensures.last_is) at c.share.ensures)
