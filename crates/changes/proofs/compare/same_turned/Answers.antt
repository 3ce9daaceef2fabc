-- `changes::compare::same_turned` meets its contract. The walk over the forward rows finds the turned ones.
-- Assumes nothing.
use mathlib.Core.Path.{refl}
use native.Mathlib.Omega.{arith}
use Rattle.store.proofs.CompareLaws.{turned_places, turned_walk, turned_bad, turned_end}
use Rattle.changes.proofs.compare.same_turned.Goals as goal

pub overflow_add-count : goal.overflow_add-count
overflow_add-count c = omega (arith, c.edges-n.ensures, c.requires.part_room.starts_room)

pub offset_bounds-s-first : goal.offset_bounds-s-first
offset_bounds-s-first c = omega (arith, c.edges-n.ensures, c.requires.part_room.starts_room)

pub bounds-s-first : goal.bounds-s-first
bounds-s-first c = omega (arith, c.edges-n.ensures, c.requires.part_room.starts_room)

pub first_places-next-requires : goal.first_places-next-requires
first_places-next-requires c = turned_places _ c.args.h.now.l.limits _ c.requires.part_room c.requires.part_room_2 c.requires.columns_value c.edges-n.ensures c.edges-w.ensures

pub same_turns-requires-clause-walkable : goal.same_turns-requires-clause-walkable
same_turns-requires-clause-walkable c = turned_walk _ c.args.h.now.l.limits _ c.requires.part_room c.requires.part_room_2 c.requires.columns_value c.edges-n.ensures c.edges-w.ensures

pub same_turns-requires-clause-m_in_bounds : goal.same_turns-requires-clause-m_in_bounds
same_turns-requires-clause-m_in_bounds c = omega (arith, turned_places _ c.args.h.now.l.limits _ c.requires.part_room c.requires.part_room_2 c.requires.columns_value c.edges-n.ensures c.edges-w.ensures)

pub returns-then-not-same_turns : goal.returns-then-not-same_turns
returns-then-not-same_turns c = turned_bad _ c.args.h.now.l.limits _ c.requires.part_room c.requires.part_room_2 c.requires.columns_value c.edges-n.ensures c.edges-w.ensures c.first_places-next.ensures c.same_turns.ensures (c.if-not-same_turns.true) refl

pub same_begins-requires : goal.same_begins-requires
same_begins-requires c = (omega (arith, turned_places _ c.args.h.now.l.limits _ c.requires.part_room c.requires.part_room_2 c.requires.columns_value c.edges-n.ensures c.edges-w.ensures, c.same_turns.ensures.long), (turned_places _ c.args.h.now.l.limits _ c.requires.part_room c.requires.part_room_2 c.requires.columns_value c.edges-n.ensures c.edges-w.ensures).1)

pub returns : goal.returns
returns c = turned_end _ c.args.h.now.l.limits _ c.requires.part_room c.requires.part_room_2 c.requires.columns_value c.edges-n.ensures c.edges-w.ensures c.first_places-next.ensures c.same_turns.ensures (c.if-not-same_turns.false) c.same_begins.ensures
