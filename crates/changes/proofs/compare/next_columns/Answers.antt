-- `changes::compare::next_columns` meets its contract. Either choice, by what it calls.
-- Assumes nothing.
use Rattle.store.specs.Hierarchy.{the_lattice}
use mathlib.Core.Path.{ap, ◌∙◌}
use native.Mathlib.Omega.{arith}
use Rattle.operators.specs.Levels.{base_relations}
use Rattle.store.proofs.LineLaws.{lines_limits, grid_is}
use Rattle.changes.proofs.compare.next_columns.Goals as goal

pub next_relations-requires-clause-relations : goal.next_relations-requires-clause-relations
next_relations-requires-clause-relations c = rw c.in-Galerkin.is at c.requires.gives

pub base_relations-requires : goal.base_relations-requires
base_relations-requires c = rw c.grid_of.ensures (lines_limits _ _ c.args.h.now.has_lines c.requires.level_lt_m (omega arith) c.three.ensures c.args.h.now.l.limits)

pub returns-in-Galerkin : goal.returns-in-Galerkin
returns-in-Galerkin c = rw c.in-Galerkin.is c.next_relations.ensures

pub returns-in-Rediscretized : goal.returns-in-Rediscretized
returns-in-Rediscretized c = rw c.in-Rediscretized.is (c.base_relations.ensures ∙ ap (base_relations (the_lattice c.args.h.now)) (grid_is _ _ c.args.h.now.has_lines c.requires.level_lt_m (omega arith) c.three.ensures c.grid_of.ensures))
