-- `renew::renew_operator::galerkin_part` meets its contract.
-- Assumes nothing.
use native.Mathlib.Omega.{arith}
use Rattle.store.proofs.EndLaws.{edges_next}
use Rattle.store.proofs.PartRowLaws.{entries_there, galerkin_places, galerkin_done}
use Rattle.renew.proofs.renew_operator.galerkin_part.Goals as goal

pub overflow_add-level : goal.overflow_add-level
overflow_add-level c = omega (arith, c.requires.level_lt_m, c.requires.shaped.few)

pub galerkin_rows-requires-clause-level_lt_m : goal.galerkin_rows-requires-clause-level_lt_m
galerkin_rows-requires-clause-level_lt_m c = let t = entries_there _ c.args.h.now.m c.args.level c.args.base c.args.flags.now _ c.requires.part_flags (edges_next _ _ c.edges-n.ensures) in c.requires.level_lt_m

pub galerkin_rows-requires-clause-shaped : goal.galerkin_rows-requires-clause-shaped
galerkin_rows-requires-clause-shaped c = let t = entries_there _ c.args.h.now.m c.args.level c.args.base c.args.flags.now _ c.requires.part_flags (edges_next _ _ c.edges-n.ensures) in c.requires.shaped

pub galerkin_rows-requires-clause-five_room : goal.galerkin_rows-requires-clause-five_room
galerkin_rows-requires-clause-five_room c = let t = entries_there _ c.args.h.now.m c.args.level c.args.base c.args.flags.now _ c.requires.part_flags (edges_next _ _ c.edges-n.ensures) in c.requires.five_room

pub galerkin_rows-requires-clause-galerkin_places : goal.galerkin_rows-requires-clause-galerkin_places
galerkin_rows-requires-clause-galerkin_places c = let t = entries_there _ c.args.h.now.m c.args.level c.args.base c.args.flags.now _ c.requires.part_flags (edges_next _ _ c.edges-n.ensures) in galerkin_places _ c.args.h.now.m c.args.level c.requires.o_value c.edges-n.ensures

pub galerkin_rows-requires-clause-n_value : goal.galerkin_rows-requires-clause-n_value
galerkin_rows-requires-clause-n_value c = let t = entries_there _ c.args.h.now.m c.args.level c.args.base c.args.flags.now _ c.requires.part_flags (edges_next _ _ c.edges-n.ensures) in (edges_next _ _ c.edges-n.ensures, t.0, t.1)

pub returns : goal.returns
returns c = galerkin_done _ c.args.h.now.m c.args.level c.requires.o_value c.edges-n.ensures c.args.base c.args.flags.now c.requires.part_flags c.galerkin_rows.ensures
