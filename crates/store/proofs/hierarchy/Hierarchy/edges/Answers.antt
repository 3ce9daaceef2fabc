-- `store::hierarchy::Hierarchy::edges` meets its contract. The lines are those of the level.
-- Assumes nothing.
use mathlib.Core.Path.{refl}
use Rattle.store.proofs.LineLaws.{lines_limits, edges_are}
use Rattle.store.proofs.hierarchy.Hierarchy.edges.Goals as goal

pub edges-requires : goal.edges-requires
edges-requires c = lines_limits _ _ c.args.self.now.has_lines c.requires refl c.three.ensures c.args.self.now.l.limits

pub returns : goal.returns
returns c = edges_are _ _ c.args.self.now.has_lines c.requires refl c.three.ensures c.edges.ensures
