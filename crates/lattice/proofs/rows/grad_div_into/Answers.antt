use Rattle.std.proofs.Common.{rules, sym, ◌≤◌, length, take, length-take, length-take-le, arith}
use Rattle.lattice.specs.Sound.{full}
use Rattle.lattice.specs.Rows.{node_terms, grad_div}
use Rattle.numbers.specs.Places.{number_at}
use Rattle.lattice.proofs.RowLaws.{low_gradient, node_terms_most, gradient_held, terms_held, below_held}
use Rattle.lattice.proofs.rows.grad_div_into.Goals as goal

pub slice_bounds-cs-end : goal.slice_bounds-cs-end
slice_bounds-cs-end c = (gradient_held _ _ c.gradient-n.ensures).columns_room

pub slice_bounds-push_each-end : goal.slice_bounds-push_each-end
slice_bounds-push_each-end c = sym (length-take-le _ _ (gradient_held _ _ c.gradient-n.ensures).columns_room)

pub push_each-requires-clause-callable : goal.push_each-requires-clause-callable
push_each-requires-clause-callable c =
    let e = gradient_held _ _ c.gradient-n.ensures in
    let few : length (take c.gradient-n.result c.gradient-n.new.columns) ≤ 2 = omega (arith, e.most, length-take c.gradient-n.result c.gradient-n.new.columns) in
    let low = (below_held e (low_gradient _ c.args.l.now.limits _ c.requires.r_bound)).low in
    (node_terms (full c.args.l.now) (number_at c.args.eps.now), 6, search rules, node_terms_most _ _, search rules)

pub returns : goal.returns
unfolding grad_div
returns c = rw (← terms_held (gradient_held _ _ c.gradient-n.ensures)) (c.push_each.ensures _ (search rules))
