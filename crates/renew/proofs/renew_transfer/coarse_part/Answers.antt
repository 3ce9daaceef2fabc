use Rattle.store.specs.Hierarchy.{the_lattice}
use native.Mathlib.Omega.{arith}
use Rattle.std.proofs.Common.{ℕ, rules, ap, ◌<◌, suc, length, refl}
use Rattle.operators.specs.LevelLists.{edges_on}
use Rattle.operators.proofs.RangeLaws.{edges_few}
use Rattle.store.specs.declared.Choice.{Choice}
use Rattle.store.specs.Parts.{row_by}
use Rattle.store.specs.Flagged.{MadeAny, with_eps}
use Rattle.store.proofs.EndLaws.{edges_next}
use Rattle.store.proofs.RenewTransferLaws.{pair_nodes_at, coarse_places, coarse_sized}
use Rattle.renew.proofs.EachLaws.{part_renewed, flags_lie}
use Rattle.renew.proofs.renew_transfer.coarse_part.Goals as goal

pub renew_each-requires-clause-flags_there : goal.renew_each-requires-clause-flags_there
renew_each-requires-clause-flags_there c =
    let n = edges_next _ _ c.edges-n.ensures in
    flags_lie c.args.level 0 _ (omega arith) c.requires.part_flags (coarse_sized _ _ _ n) (omega (arith, n, edges_few (the_lattice c.args.h.now) c.args.h.now.l.limits (suc c.args.level)))

pub renew_each-requires-clause-takes : goal.renew_each-requires-clause-takes
renew_each-requires-clause-takes c = λ xs r k h. record {
  taken = λ p e.
      let q = coarse_places (the_lattice c.args.h.now) c.args.h.now.l.limits c.args.choice c.args.h.now.m (c.requires.level_lt_m, c.args.h.now.few) c.requires.o_value p.now (omega (arith, k, ap length e, c.requires.m_in_bounds)) in
      let y = pair_nodes_at c.args.h.now.l.limits c.pair-pair.ensures c.nodes-nn.ensures in
      let n = edges_next _ _ c.edges-n.ensures in
      let b : r < edges_on (the_lattice c.args.h.now) (suc c.args.level) = omega (arith, h, n) in
      λ κs a b' d. search (y, q.0, q.1.0, q.1.1, b);
}

pub returns : goal.returns
returns c =
    let n = edges_next _ _ c.edges-n.ensures in
    part_renewed c.args.level 0 _ (omega arith) c.requires.part_flags (coarse_sized _ _ _ n) refl c.renew_each.result c.renew_each.ensures with_eps
    (λ r zs b ys h k g.
    let z = g.met in
    let y : MadeAny (the_lattice c.args.h.now) (row_by 0 c.args.level r) with_eps g.shown.now b g.left.now = search rules in
    rw (← g.shows, ← g.leaves) (y.made c.args.choice c.args.h.now.m))
