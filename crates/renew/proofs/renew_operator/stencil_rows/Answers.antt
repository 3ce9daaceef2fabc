use Rattle.lattice.specs.Sound.{full}
use native.Mathlib.Omega.{arith}
use Rattle.std.proofs.Common.{List, Float, rules, ap, ◌+◌, ◌*◌, ◌≤◌, ◌<◌, length, refl}
use Rattle.operators.specs.LevelLists.{edges_on}
use Rattle.operators.proofs.RangeLaws.{edges_few}
use Rattle.store.specs.Renewed.{five}
use Rattle.store.specs.RenewSteps.{EntryMade}
use Rattle.store.specs.Layout.{operator_count}
use Rattle.store.specs.Rows.{operator}
use Rattle.renew.proofs.EachLaws.{each_renewed}
use Rattle.renew.proofs.renew_operator.stencil_rows.Goals as goal

pub renew_each-requires-clause-flags_there : goal.renew_each-requires-clause-flags_there
renew_each-requires-clause-flags_there c = let n = edges_few (full c.args.l.now) c.args.l.now.limits c.args.level in
    (omega (arith, c.requires.n_value), omega (arith, n, c.requires.n_value), omega (arith, c.requires.n_value))

pub renew_each-requires-clause-takes : goal.renew_each-requires-clause-takes
renew_each-requires-clause-takes c = λ xs r k h. record {
  taken = λ p e.
      let b : r < edges_on (full c.args.l.now) c.args.level = omega (arith, h, c.requires.n_value) in
      let q : 2 * (c.args.o.k + operator_count (full c.args.l.now) c.args.choice c.args.level) ≤ length p.now = omega (arith, k, ap length e, c.requires.level_in_bounds) in
      λ κs a b' d. search (c.requires.stencil_rule, c.requires.from_bound, c.requires.operator_starts, q, b);
}

pub returns : goal.returns
returns c = record {
  each = λ x f t w.
      each_renewed _ _ (full c.args.l.now) c.args.choice c.args.m x (operator c.args.level) c.args.flags.now c.args.base c.args.n (λ (ov : List Float). five c.args.eps.now f t ov w) c.args.ovalues.now
      (λ r zs b ys h k g.
      let z = g.met in
      let y : EntryMade (full c.args.l.now) c.args.choice c.args.m (operator c.args.level r) c.args.eps.now g.shown.now b g.left.now = search rules in
      rw (← g.shows, ← g.leaves) (y.each x f t w))
      c.args.level (λ r. refl) c.renew_each.result c.renew_each.new.list c.renew_each.ensures;
}
