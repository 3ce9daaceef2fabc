use mathlib.Core.Path.{sym, ◌∙◌}
use lib.Seq.{length-take-le}
use Rattle.lattice.proofs.RowLaws.{low_divergence, mean_held, divergence_held, below_held}
use Rattle.lattice.proofs.rows.node_eps.Goals as goal

pub slice_bounds-cs-end : goal.slice_bounds-cs-end
slice_bounds-cs-end c = (divergence_held _ _ c.divergence-n.ensures).columns_room

pub slice_bounds-mean_free-end : goal.slice_bounds-mean_free-end
slice_bounds-mean_free-end c = sym (length-take-le _ _ (divergence_held _ _ c.divergence-n.ensures).columns_room)

pub mean_free-requires-clause-below : goal.mean_free-requires-clause-below
mean_free-requires-clause-below c = below_held (divergence_held _ _ c.divergence-n.ensures) (low_divergence _ c.args.l.now.limits _ c.requires.q_bound)

pub returns : goal.returns
returns c = c.mean_free.ensures ∙ mean_held _ _ _ (divergence_held _ _ c.divergence-n.ensures)
