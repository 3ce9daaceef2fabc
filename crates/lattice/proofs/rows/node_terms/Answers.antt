use mathlib.Core.Path.{◌∙◌}
use Rattle.std.proofs.Common.{rules, sym, ◌≤◌, length, take, length-take, length-take-le, arith}
use Rattle.lattice.specs.Sound.{full}
use Rattle.lattice.specs.Rows.{node_term, node_terms}
use Rattle.numbers.specs.Places.{number_at}
use Rattle.lattice.proofs.RowLaws.{low_divergence, mean_held, node_term_most, divergence_held, below_held, terms_held}
use Rattle.lattice.proofs.rows.node_terms.Goals as goal

pub slice_bounds-cs-end : goal.slice_bounds-cs-end
slice_bounds-cs-end c = (divergence_held _ _ c.divergence-n.ensures).columns_room

pub slice_bounds-edges-end : goal.slice_bounds-edges-end
slice_bounds-edges-end c = sym (length-take-le _ _ (divergence_held _ _ c.divergence-n.ensures).columns_room)

pub mean_free-requires-clause-below : goal.mean_free-requires-clause-below
mean_free-requires-clause-below c = below_held (divergence_held _ _ c.divergence-n.ensures) (low_divergence _ c.args.l.now.limits _ c.requires.q_bound)

pub push_each-requires-clause-callable : goal.push_each-requires-clause-callable
push_each-requires-clause-callable c =
    let e = divergence_held _ _ c.divergence-n.ensures in
    let few : length (take c.divergence-n.result c.divergence-n.new.columns) ≤ 6 = omega (arith, e.most, length-take c.divergence-n.result c.divergence-n.new.columns) in
    let low = (below_held e (low_divergence _ c.args.l.now.limits _ c.requires.q_bound)).low in
    (node_term (full c.args.l.now) (number_at c.args.eps.now) c.args.wg c.div-inverse.result, 1, search rules, node_term_most _ _ _ _, search rules)

pub returns : goal.returns
unfolding node_terms
returns c =
    let e = divergence_held _ _ c.divergence-n.ensures in
    rw (← (c.mean_free.ensures ∙ mean_held _ _ _ e), ← c.div-inverse.ensures, ← terms_held e) (c.push_each.ensures _ (search rules))
