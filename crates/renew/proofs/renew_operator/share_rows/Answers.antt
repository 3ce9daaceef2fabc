use Rattle.store.specs.Hierarchy.{the_lattice}
use native.Mathlib.Omega.{arith}
use Rattle.std.proofs.Common.{List, Float, rules, ap, ◌+◌, ◌*◌, ◌≤◌, suc, length}
use Rattle.operators.proofs.RangeLaws.{edges_few}
use Rattle.store.specs.declared.Choice.TheVariants.{Rediscretized}
use Rattle.store.specs.Renewed.{fixed, five}
use Rattle.store.specs.RenewSteps.{ShareMade}
use Rattle.store.specs.Layout.{scale_off}
use Rattle.store.specs.Rows.{share}
use Rattle.renew.proofs.EachLaws.{each_renewed}
use Rattle.renew.proofs.renew_operator.share_rows.Goals as goal

pub renew_each-requires-clause-flags_there : goal.renew_each-requires-clause-flags_there
renew_each-requires-clause-flags_there c = let n = edges_few (the_lattice c.args.h.now) c.args.h.now.l.limits (suc c.args.level) in
    (omega (arith, c.requires.base_bound), omega (arith, n, c.requires.share_places.coarse_is), omega (arith, c.requires.base_bound))

pub renew_each-requires-clause-takes : goal.renew_each-requires-clause-takes
renew_each-requires-clause-takes c = λ xs r k h. record {
  taken = λ p e.
      let q : 2 * scale_off (the_lattice c.args.h.now) c.args.h.now.m ≤ length p.now = omega (arith, k, ap length e, c.requires.m_in_bounds) in
      λ κs a b' d. search (c.requires.level_lt_m, c.requires.turned_rows, c.requires.share_places, q, h);
}

pub returns : goal.returns
returns c = record {
  each = λ fs fc os oc e f o.
      each_renewed _ _ (the_lattice c.args.h.now) Rediscretized c.args.h.now.m (fixed fs fc c.args.turned.now.starts.now c.args.turned.now.columns.now os oc) (share c.args.level) c.args.flags.now c.args.base c.args.c
      (λ (sc : List Float). five e f c.args.turned.now.values.now o sc) c.args.scaling.now
      (λ r zs b ys h k g.
      let z = g.met in
      let y : ShareMade (the_lattice c.args.h.now) c.args.h.now.m c.args.turned.now.starts.now c.args.turned.now.columns.now (share c.args.level r) c.args.turned.now.values.now g.shown.now b g.left.now = search rules in
      rw (← g.shows, ← g.leaves) (y.each fs fc os oc e f o))
      (c.args.level + 1) (λ r. omega arith) c.renew_each.result c.renew_each.new.list c.renew_each.ensures;
}
