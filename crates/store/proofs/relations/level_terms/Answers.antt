-- `store::relations::level_terms` meets its contract.
-- Assumes nothing.
use Rattle.store.specs.Hierarchy.{the_lattice}
use mathlib.Core.Path.{refl, ap, ◌∙◌}
use Rattle.numbers.specs.Lists.{start_of}
use Rattle.lattice.specs.Grid.{unknowns_of}
use Rattle.lattice.specs.declared.grid.Grid3d.{Grid3d}
use Rattle.operators.specs.Levels.{pattern_row}
use Rattle.store.proofs.LineLaws.{lines_limits, grid_is}
use Rattle.store.proofs.relations.level_terms.Goals as goal

pub level_count-requires-clause-limits : goal.level_count-requires-clause-limits
level_count-requires-clause-limits c = rw c.grid_of-g.ensures (lines_limits _ _ c.args.h.now.has_lines c.requires.level_le_m refl c.three.ensures c.args.h.now.l.limits)

pub returns : goal.returns
returns c = c.level_count.ensures ∙ ap (λ (g : Grid3d). start_of (pattern_row (the_lattice c.args.h.now) g c.args.u.now) (unknowns_of g)) (grid_is _ _ c.args.h.now.has_lines c.requires.level_le_m refl c.three.ensures c.grid_of-g.ensures)
