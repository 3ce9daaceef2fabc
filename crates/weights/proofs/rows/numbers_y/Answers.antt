use Prim.Native.Nat.{◌+◌, ◌*◌, ◌<◌, ◌≤◌, ◌^◌}
use native.Mathlib.Omega.{arith}
use Rattle.std.proofs.Common.{rules}
use mathlib.Core.Path.{◌≡◌}
use lib.ListN.{get_or}
use Rattle.weights.specs.declared.rows.Pull.{Pull}
use Rattle.lattice.proofs.Equations.{n_of_1}
use Rattle.numbers.specs.Lists.{read_from}
use Rattle.weights.specs.Tables.{pull_in, numbers_in_y, numbers_in_z}
use Rattle.weights.proofs.RowLaws.{place_on_lem, node_on_lem, few_at, slot_laid, numbers_z_most}
use Rattle.weights.proofs.rows.numbers_y.Goals as goal

pub overflow_mul-q : goal.overflow_mul-q
overflow_mul-q c = let w = few_at c.args.p c.args.p.j c.args.t.now.span_of.places c.slot_on-q.ensures (omega arith) c.requires.slots.j_low in omega arith

pub offset_bounds-t-q : goal.offset_bounds-t-q
offset_bounds-t-q c = let w = few_at c.args.p c.args.p.j c.args.t.now.span_of.places c.slot_on-q.ensures (omega arith) c.requires.slots.j_low in omega arith

pub bounds-t-q : goal.bounds-t-q
bounds-t-q c = let w = few_at c.args.p c.args.p.j c.args.t.now.span_of.places c.slot_on-q.ensures (omega arith) c.requires.slots.j_low in omega (arith, c.args.t.now.span_of.places.counts_long)

pub lay_each-requires-clause-low : goal.lay_each-requires-clause-low
lay_each-requires-clause-low c = let w = few_at c.args.p c.args.p.j c.args.t.now.span_of.places c.slot_on-q.ensures (omega arith) c.requires.slots.j_low in omega arith

pub lay_each-requires-clause-callable : goal.lay_each-requires-clause-callable
lay_each-requires-clause-callable c =
    let t = c.args.t.now in
    let w = few_at c.args.p c.args.p.j c.args.t.now.span_of.places c.slot_on-q.ensures (omega arith) c.requires.slots.j_low in (
      λ e. numbers_in_z t.span.fine t.span.coarse (read_from t.eps.now t.span.feps) (read_from t.eps.now t.span.ceps) t.places.now t.nodes.now t.counts.now t.pulls.now c.args.p c.args.x (pull_in t.places.now t.nodes.now t.pulls.now e),
      2,
      search rules,
      λ e. numbers_z_most c.args.t.now.span_of.places c.args.p _ _ _ _ _ c.requires.slots.k_low c.args.x _,
      λ d k xs b l.
          let h : get_or t.places.now (2 * c.slot_on-q.result + d) 0 < t.span.coarse.ny = rw n_of_1 at (place_on_lem c.args.t.now.span_of.places w.slot b) in
          let g : get_or t.nodes.now (2 * c.slot_on-q.result + d) 0 < t.span.fine.ny = rw n_of_1 at (node_on_lem c.args.t.now.span_of.nodes w.slot b) in
          let o : 2 * c.slot_on-q.result + d < 768 = omega arith in
          let m : k + 2 ≤ 2 ^ 40 = omega arith in
          let low : (z : Pull) → z ≡ pull_in t.places.now t.nodes.now t.pulls.now (2 * c.slot_on-q.result + d) → z.place < t.span.coarse.ny = λ z e. rw e h in
          let deep : (z : Pull) → z ≡ pull_in t.places.now t.nodes.now t.pulls.now (2 * c.slot_on-q.result + d) → z.node < t.span.fine.ny = λ z e. rw e g in
          (search rules, search (rules, low, deep)),
    )

pub returns : goal.returns
unfolding numbers_in_y
returns c =
    let t = c.args.t.now in
    slot_laid (numbers_in_z t.span.fine t.span.coarse (read_from t.eps.now t.span.feps) (read_from t.eps.now t.span.ceps) t.places.now t.nodes.now t.counts.now t.pulls.now c.args.p c.args.x) (pull_in t.places.now t.nodes.now t.pulls.now) t.counts.now c.slot_on-q.ensures (c.lay_each.ensures (λ e. numbers_in_z t.span.fine t.span.coarse (read_from t.eps.now t.span.feps) (read_from t.eps.now t.span.ceps) t.places.now t.nodes.now t.counts.now t.pulls.now c.args.p c.args.x (pull_in t.places.now t.nodes.now t.pulls.now e)) 2 (search rules) (λ e. numbers_z_most c.args.t.now.span_of.places c.args.p _ _ _ _ _ c.requires.slots.k_low c.args.x _))
