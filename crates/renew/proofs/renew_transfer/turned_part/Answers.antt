use Rattle.store.specs.Hierarchy.{the_lattice}
use native.Mathlib.Omega.{arith}
use Rattle.std.proofs.Common.{ℕ, rules, ap, ◌+◌, ◌*◌, ◌≤◌, ◌<◌, suc, length, refl}
use Rattle.operators.specs.LevelLists.{edges_on}
use Rattle.operators.proofs.RangeLaws.{edges_few}
use Rattle.store.specs.declared.Choice.{Choice}
use Rattle.store.specs.Parts.{row_by}
use Rattle.store.specs.Flagged.{Made, with_turned}
use Rattle.numbers.proofs.PartLaws.{part_room}
use Rattle.store.specs.Layout.{turned_off, turned_count}
use Rattle.store.proofs.EndLaws.{edges_next}
use Rattle.store.proofs.RenewTransferLaws.{turned_counted, turned_sized}
use Rattle.renew.proofs.EachLaws.{part_renewed, flags_lie}
use Rattle.renew.proofs.renew_transfer.turned_part.Goals as goal

pub renew_each-requires-clause-flags_there : goal.renew_each-requires-clause-flags_there
renew_each-requires-clause-flags_there c =
    let n = edges_next _ _ c.edges-k.ensures in
    flags_lie c.args.level 3 _ (omega arith) c.requires.part_flags (turned_sized _ _ _ n) (omega (arith, n, edges_few (the_lattice c.args.h.now) c.args.h.now.l.limits (suc c.args.level)))

pub renew_each-requires-clause-takes : goal.renew_each-requires-clause-takes
renew_each-requires-clause-takes c = λ xs r k h. record {
  taken = λ p e.
      let n = edges_next _ _ c.edges-k.ensures in
      let b : r < edges_on (the_lattice c.args.h.now) (suc c.args.level) = omega (arith, h, n) in
      let w = turned_counted c.requires.turned_ready c.edges-n.ensures in
      let q : 2 * (turned_off (the_lattice c.args.h.now) c.args.level + turned_count (the_lattice c.args.h.now) c.args.level) ≤ length p.now =
      omega (arith, part_room (turned_count (the_lattice c.args.h.now)) c.args.level c.args.h.now.m c.requires.level_lt_m, k, ap length e, c.requires.m_in_bounds) in
      let s : c.args.level ≤ 11 = omega (arith, c.requires.level_lt_m, c.args.h.now.few) in
      λ κs a b' d. search (w, s, b, q);
}

pub returns : goal.returns
returns c =
    let n = edges_next _ _ c.edges-k.ensures in
    part_renewed c.args.level 3 _ (omega arith) c.requires.part_flags (turned_sized _ _ _ n) refl c.renew_each.result c.renew_each.ensures (with_turned c.args.values.now)
    (λ r zs b ys h k g.
    let z = g.met in
    let y : (ch : Choice) (m : ℕ) → Made (the_lattice c.args.h.now) ch m (row_by 3 c.args.level r) (with_turned c.args.values.now) g.shown.now b g.left.now = search rules in
    rw (← g.shows, ← g.leaves) (y c.args.choice c.args.h.now.m))
