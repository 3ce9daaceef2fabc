use native.Mathlib.Omega.{arith}
use Rattle.std.proofs.Common.{rules}
use Prim.Native.Nat.{◌+◌, ◌*◌, ◌<◌, ◌≤◌, ◌^◌}
use lib.ListN.{length, get_or}
use Rattle.lattice.proofs.Equations.{n_of_1}
use Rattle.weights.specs.Tables.{columns_in_y, columns_in_z}
use Rattle.weights.proofs.RowLaws.{place_on_lem, few_at, slot_laid, columns_z_most}
use Rattle.weights.proofs.rows.columns_y.Goals as goal

pub overflow_mul-q : goal.overflow_mul-q
overflow_mul-q c = let w = few_at c.args.p c.args.p.j c.args.t.now.places_of c.slot_on-q.ensures (omega arith) c.requires.slots.j_low in omega arith

pub offset_bounds-t-q : goal.offset_bounds-t-q
offset_bounds-t-q c = let w = few_at c.args.p c.args.p.j c.args.t.now.places_of c.slot_on-q.ensures (omega arith) c.requires.slots.j_low in omega arith

pub bounds-t-q : goal.bounds-t-q
bounds-t-q c = let w = few_at c.args.p c.args.p.j c.args.t.now.places_of c.slot_on-q.ensures (omega arith) c.requires.slots.j_low in omega arith

pub lay_each-requires-clause-low : goal.lay_each-requires-clause-low
lay_each-requires-clause-low c = let w = few_at c.args.p c.args.p.j c.args.t.now.places_of c.slot_on-q.ensures (omega arith) c.requires.slots.j_low in omega arith

pub lay_each-requires-clause-callable : goal.lay_each-requires-clause-callable
lay_each-requires-clause-callable c =
    let w = few_at c.args.p c.args.p.j c.args.t.now.places_of c.slot_on-q.ensures (omega arith) c.requires.slots.j_low in (
      λ e. columns_in_z c.args.t.now.coarse c.args.t.now.places.now c.args.t.now.counts.now c.args.p c.args.i (get_or c.args.t.now.places.now e 0),
      2,
      search rules,
      λ e. columns_z_most c.args.t.now.places_of c.args.p c.requires.slots.k_low c.args.i _,
      λ d k xs b l.
          let h : get_or c.args.t.now.places.now (2 * c.slot_on-q.result + d) 0 < c.args.t.now.coarse.ny = rw n_of_1 at (place_on_lem c.args.t.now.places_of w.slot b) in
          let o : 2 * c.slot_on-q.result + d < length c.args.t.now.places.now = omega arith in
          let m : k + 2 ≤ 2 ^ 40 = omega arith in
          (search rules, search o, search rules),
    )

pub returns : goal.returns
unfolding columns_in_y
returns c = slot_laid (columns_in_z c.args.t.now.coarse c.args.t.now.places.now c.args.t.now.counts.now c.args.p c.args.i) (λ e. get_or c.args.t.now.places.now e 0) c.args.t.now.counts.now c.slot_on-q.ensures (c.lay_each.ensures (λ e. columns_in_z c.args.t.now.coarse c.args.t.now.places.now c.args.t.now.counts.now c.args.p c.args.i (get_or c.args.t.now.places.now e 0)) 2 (search rules) (λ e. columns_z_most c.args.t.now.places_of c.args.p c.requires.slots.k_low c.args.i _))
