use native.Mathlib.Omega.{arith}
use Rattle.std.proofs.Common.{rules}
use Prim.Native.Nat.{◌+◌, ◌*◌, ◌<◌, ◌^◌}
use lib.ListN.{length, get_or}
use Rattle.lattice.proofs.Equations.{n_of_2}
use Rattle.lattice.specs.Grid.{Inside}
use Rattle.weights.specs.Prolongation.{edge_at}
use Rattle.weights.specs.Product.{column_in}
use Rattle.weights.specs.Tables.{columns_in_z}
use Rattle.weights.proofs.RowLaws.{place_on_lem, few_at, slot_laid}
use Rattle.weights.proofs.rows.columns_z.Goals as goal

pub overflow_mul-q : goal.overflow_mul-q
overflow_mul-q c = let w = few_at c.args.p c.args.p.k c.args.t.now.places_of c.slot_on-q.ensures (omega arith) c.requires.slots.k_low in omega arith

pub offset_bounds-t-q : goal.offset_bounds-t-q
offset_bounds-t-q c = let w = few_at c.args.p c.args.p.k c.args.t.now.places_of c.slot_on-q.ensures (omega arith) c.requires.slots.k_low in omega arith

pub bounds-t-q : goal.bounds-t-q
bounds-t-q c = let w = few_at c.args.p c.args.p.k c.args.t.now.places_of c.slot_on-q.ensures (omega arith) c.requires.slots.k_low in omega arith

pub lay_each-requires-clause-low : goal.lay_each-requires-clause-low
lay_each-requires-clause-low c = let w = few_at c.args.p c.args.p.k c.args.t.now.places_of c.slot_on-q.ensures (omega arith) c.requires.slots.k_low in omega arith

pub lay_each-requires-clause-callable : goal.lay_each-requires-clause-callable
unfolding column_in edge_at
lay_each-requires-clause-callable c =
    let w = few_at c.args.p c.args.p.k c.args.t.now.places_of c.slot_on-q.ensures (omega arith) c.requires.slots.k_low in (
      λ e. column_in c.args.t.now.coarse c.args.p c.args.i c.args.j (get_or c.args.t.now.places.now e 0),
      1,
      search rules,
      λ e. omega arith,
      λ d k xs b l.
          let h : get_or c.args.t.now.places.now (2 * c.slot_on-q.result + d) 0 < c.args.t.now.coarse.nz = rw n_of_2 at (place_on_lem c.args.t.now.places_of w.slot b) in
          let o : 2 * c.slot_on-q.result + d < length c.args.t.now.places.now = omega arith in
          let i : Inside c.args.t.now.coarse (record { component = c.args.p.component; i = c.args.i; j = c.args.j; k = get_or c.args.t.now.places.now (2 * c.slot_on-q.result + d) 0 }) =
          record { c_in = c.requires.slots.c_low; i_in = c.requires.i_lt_nx.0; j_in = c.requires.i_lt_nx.1; k_in = h } in
          let m : k < 2 ^ 40 = omega arith in
          (search rules, search o, search rules, search m),
    )

pub returns : goal.returns
unfolding columns_in_z column_in edge_at
returns c = slot_laid (column_in c.args.t.now.coarse c.args.p c.args.i c.args.j) (λ e. get_or c.args.t.now.places.now e 0) c.args.t.now.counts.now c.slot_on-q.ensures (c.lay_each.ensures (λ e. column_in c.args.t.now.coarse c.args.p c.args.i c.args.j (get_or c.args.t.now.places.now e 0)) 1 (search rules) (λ e. omega arith))
