use Rattle.store.specs.Hierarchy.{the_lattice}
use native.Mathlib.Omega.{arith}
use Rattle.std.proofs.Common.{rules, ap, ◌<◌, suc, length, refl}
use Rattle.operators.specs.LevelLists.{edges_on}
use Rattle.operators.proofs.RangeLaws.{edges_few}
use Rattle.store.specs.declared.Choice.TheVariants.{Rediscretized}
use Rattle.store.specs.Parts.{row_by}
use Rattle.store.specs.Flagged.{Made, with_eps}
use Rattle.store.proofs.EndLaws.{edges_next}
use Rattle.store.proofs.RenewTransferLaws.{pair_nodes_at, pair_nested, averaged_places, averaged_sized}
use Rattle.renew.proofs.EachLaws.{part_renewed, flags_lie}
use Rattle.renew.proofs.renew_transfer.averaged_part.Goals as goal

pub invariant_of-nested : goal.invariant_of-nested
invariant_of-nested c = record { lines = pair_nested c.args.h.now.l.limits c.pair-pair.ensures }

pub renew_each-requires-clause-flags_there : goal.renew_each-requires-clause-flags_there
renew_each-requires-clause-flags_there c =
    let n = edges_next _ _ c.edges-n.ensures in
    flags_lie c.args.level 1 _ (omega arith) c.requires.part_flags (averaged_sized _ _ n) (omega (arith, n, edges_few (the_lattice c.args.h.now) c.args.h.now.l.limits (suc c.args.level)))

pub renew_each-requires-clause-takes : goal.renew_each-requires-clause-takes
renew_each-requires-clause-takes c = λ xs r k h. record {
  taken = λ p e.
      let q = averaged_places (the_lattice c.args.h.now) c.args.h.now.l.limits c.args.h.now.m (c.requires.level_lt_m, c.args.h.now.few) c.requires.from_value p.now (omega (arith, k, ap length e, c.requires.m_in_bounds)) in
      let y = pair_nodes_at c.args.h.now.l.limits c.pair-pair.ensures c.nodes-nn.ensures in
      let n = edges_next _ _ c.edges-n.ensures in
      let b : r < edges_on (the_lattice c.args.h.now) (suc c.args.level) = omega (arith, h, n) in
      λ κs a b' d. search (y, c.pair-pair.ensures.base_is, q, c.requires.from_value.0, c.requires.from_value.1, b);
}

pub returns : goal.returns
returns c =
    let n = edges_next _ _ c.edges-n.ensures in
    part_renewed c.args.level 1 _ (omega arith) c.requires.part_flags (averaged_sized _ _ n) refl c.renew_each.result c.renew_each.ensures with_eps
    (λ r zs b ys h k g.
    let z = g.met in
    let y : Made (the_lattice c.args.h.now) Rediscretized c.args.h.now.m (row_by 1 c.args.level r) with_eps g.shown.now b g.left.now = search rules in
    rw (← g.shows, ← g.leaves) y)
