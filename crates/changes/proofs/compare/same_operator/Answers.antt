-- `changes::compare::same_operator` meets its contract. The lines are those of the level.
-- Assumes nothing.
use Rattle.store.specs.Hierarchy.{the_lattice}
use mathlib.Core.Path.{refl, ap, ◌∙◌}
use Rattle.lattice.specs.declared.grid.Grid3d.{Grid3d}
use Rattle.lattice.specs.Grid.{unknowns_of}
use Rattle.operators.specs.Levels.{pattern_row}
use Rattle.store.specs.Compare.{rows_match}
use Rattle.store.proofs.LineLaws.{lines_limits, grid_is}
use Rattle.changes.proofs.compare.same_operator.Goals as goal

pub same_pattern-requires-clause-limits : goal.same_pattern-requires-clause-limits
same_pattern-requires-clause-limits c = rw c.grid_of-g.ensures (lines_limits _ _ c.args.h.now.has_lines c.requires.level_le_m refl c.three.ensures c.args.h.now.l.limits)

pub same_pattern-requires-clause-by_index : goal.same_pattern-requires-clause-by_index
same_pattern-requires-clause-by_index c = let e = grid_is _ _ c.args.h.now.has_lines c.requires.level_le_m refl c.three.ensures c.grid_of-g.ensures in rw e c.requires.by_index

pub same_pattern-requires-clause-part_room : goal.same_pattern-requires-clause-part_room
same_pattern-requires-clause-part_room c = let e = grid_is _ _ c.args.h.now.has_lines c.requires.level_le_m refl c.three.ensures c.grid_of-g.ensures in rw e c.requires.part_room

pub returns : goal.returns
returns c = c.same_pattern.ensures ∙ ap (λ (g : Grid3d). rows_match (pattern_row (the_lattice c.args.h.now) g c.args.u.now) (unknowns_of g) c.args.o c.args.starts.now c.args.columns.now) (grid_is _ _ c.args.h.now.has_lines c.requires.level_le_m refl c.three.ensures c.grid_of-g.ensures)
