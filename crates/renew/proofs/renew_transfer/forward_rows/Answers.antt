use Rattle.store.specs.Hierarchy.{the_lattice}
use native.Mathlib.Omega.{arith}
use Rattle.std.proofs.Common.{ℕ, rules, ap, ◌+◌, ◌*◌, ◌≤◌, ◌<◌, length, refl}
use Rattle.operators.specs.LevelLists.{edges_on}
use Rattle.store.specs.declared.Choice.{Choice}
use Rattle.store.specs.Parts.{row_by}
use Rattle.store.specs.Flagged.{Made, with_forward}
use Rattle.store.specs.Layout.{forward_count}
use Rattle.store.proofs.RenewTransferLaws.{forward_sized}
use Rattle.renew.proofs.EachLaws.{part_renewed, flags_lie}
use Rattle.renew.proofs.renew_transfer.forward_rows.Goals as goal

pub renew_each-requires-clause-flags_there : goal.renew_each-requires-clause-flags_there
renew_each-requires-clause-flags_there c =
    flags_lie c.args.level 2 _ (omega arith) c.requires.part_flags (forward_sized _ _ _ c.requires.k_value.1) (omega (arith, c.requires.starts_at.starts_low, c.requires.k_value.1))

pub renew_each-requires-clause-takes : goal.renew_each-requires-clause-takes
renew_each-requires-clause-takes c = λ xs r k h. record {
  taken = λ p e.
      let b : r < edges_on (the_lattice c.args.h.now) c.args.level = omega (arith, h, c.requires.k_value.1) in
      let q : 2 * (c.args.k + forward_count (the_lattice c.args.h.now) c.args.level) ≤ length p.now = omega (arith, k, ap length e, c.requires.k_value.3) in
      λ κs a b' d. search (c.requires.weights_ready, c.requires.starts_at, c.requires.k_value.0, c.requires.k_value.2, q, b);
}

pub returns : goal.returns
returns c =
    part_renewed c.args.level 2 _ (omega arith) c.requires.part_flags (forward_sized _ _ _ c.requires.k_value.1) refl c.renew_each.result c.renew_each.ensures (with_forward c.args.w.now.eps.now)
    (λ r zs b ys h k g.
    let z = g.met in
    let y : (ch : Choice) (m : ℕ) → Made (the_lattice c.args.h.now) ch m (row_by 2 c.args.level r) (with_forward c.args.w.now.eps.now) g.shown.now b g.left.now = (let c : ℕ = 0 in search rules) in
    rw (← g.shows, ← g.leaves) (y c.args.choice c.args.h.now.m))
