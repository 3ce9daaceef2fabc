-- `changes::compare::first_difference` meets its contract. The least of the three.
-- Assumes nothing.
use Rattle.changes.proofs.FirstLaws.{first_in}
use Rattle.changes.proofs.compare.first_difference.Goals as goal

pub first_transfer-t-requires-clause-m_in_bounds : goal.first_transfer-t-requires-clause-m_in_bounds
first_transfer-t-requires-clause-m_in_bounds c = (c.requires.fixed_room.fs_room, c.requires.fixed_room.fc_room)

pub first_transfer-t-requires-clause-m_in_bounds_2 : goal.first_transfer-t-requires-clause-m_in_bounds_2
first_transfer-t-requires-clause-m_in_bounds_2 c = (c.requires.fixed_room.ts_room, c.requires.fixed_room.tc_room)

pub first_operator-o-requires : goal.first_operator-o-requires
first_operator-o-requires c = (c.requires.fixed_room.os_room, c.requires.fixed_room.oc_room)

pub returns : goal.returns
returns c = first_in _ _ _ _ _ _ _ _ _ c.first_ends-e.ensures c.first_transfer-t.ensures c.first_operator-o.ensures c.earlier.ensures c.earlier-2.ensures
