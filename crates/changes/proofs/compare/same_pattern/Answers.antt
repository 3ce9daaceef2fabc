use Rattle.store.proofs.MatchLaws.{going_start, going_end, laid_ask, laid_turn, laid_bad}
use Prim.Native.Nat.{ℕ, ◌+◌}
use mathlib.Core.Path.{refl, ap, ◌∙◌}
use native.Mathlib.Omega.{arith}
use lib.Dec.{eqb}
use lib.ListN.{get_or}
use Rattle.numbers.proofs.ListLaws.{laid_same}
use Rattle.lattice.specs.Lattice.{full_lattice}
use Rattle.lattice.proofs.RowLaws.{at_in}
use Rattle.operators.proofs.LevelTableLaws.{row_laid_lem}
use Rattle.changes.proofs.compare.same_pattern.Goals as goal

pub unknowns-n-requires : goal.unknowns-n-requires
unknowns-n-requires c = c.requires.limits

pub loop-r-init : goal.loop-r-init
loop-r-init c = (refl, going_start)

pub at-p-requires : goal.at-p-requires
at-p-requires c = c.requires.limits

pub row_columns-count-requires-clause-inside : goal.row_columns-count-requires-clause-inside
row_columns-count-requires-clause-inside c = at_in c.requires.limits (omega (arith, c.loop-r-test.true, c.unknowns-n.ensures)) c.at-p.ensures

pub overflow_add-s : goal.overflow_add-s
overflow_add-s c = omega (arith, c.loop-r-test.true, c.unknowns-n.ensures, c.requires.part_room.starts_room)

pub overflow_add-o : goal.overflow_add-o
overflow_add-o c = omega (arith, laid_ask c.loop-r.invariant.1 (omega (arith, c.loop-r-test.true, c.unknowns-n.ensures)) (row_laid_lem (full_lattice c.args.l c.args.st.now) c.args.g c.args.u.now c.loop-r.r c.at-p.ensures c.fixed_at-fixed.ensures c.row_columns-count.ensures) (omega (arith, c.loop-r.invariant.0, c.requires.by_index c.loop-r.r (omega (arith, c.loop-r-test.true, c.unknowns-n.ensures)))) c.requires.part_room)

pub same_row-requires-clause-at_in_bounds : goal.same_row-requires-clause-at_in_bounds
same_row-requires-clause-at_in_bounds c = (laid_ask c.loop-r.invariant.1 (omega (arith, c.loop-r-test.true, c.unknowns-n.ensures)) (row_laid_lem (full_lattice c.args.l c.args.st.now) c.args.g c.args.u.now c.loop-r.r c.at-p.ensures c.fixed_at-fixed.ensures c.row_columns-count.ensures) (omega (arith, c.loop-r.invariant.0, c.requires.by_index c.loop-r.r (omega (arith, c.loop-r-test.true, c.unknowns-n.ensures)))) c.requires.part_room).0

pub same_row-requires-clause-n_in_bounds : goal.same_row-requires-clause-n_in_bounds
same_row-requires-clause-n_in_bounds c = (laid_ask c.loop-r.invariant.1 (omega (arith, c.loop-r-test.true, c.unknowns-n.ensures)) (row_laid_lem (full_lattice c.args.l c.args.st.now) c.args.g c.args.u.now c.loop-r.r c.at-p.ensures c.fixed_at-fixed.ensures c.row_columns-count.ensures) (omega (arith, c.loop-r.invariant.0, c.requires.by_index c.loop-r.r (omega (arith, c.loop-r-test.true, c.unknowns-n.ensures)))) c.requires.part_room).1

pub returns-then-not-same_row : goal.returns-then-not-same_row
returns-then-not-same_row c = laid_bad c.loop-r.invariant.1 (omega (arith, c.loop-r-test.true, c.unknowns-n.ensures)) (row_laid_lem (full_lattice c.args.l c.args.st.now) c.args.g c.args.u.now c.loop-r.r c.at-p.ensures c.fixed_at-fixed.ensures c.row_columns-count.ensures) (omega (arith, c.loop-r.invariant.0, c.requires.by_index c.loop-r.r (omega (arith, c.loop-r-test.true, c.unknowns-n.ensures)))) c.same_row.ensures (c.if-not-same_row.true) refl

pub overflow_add-k : goal.overflow_add-k
overflow_add-k c = omega (arith, laid_ask c.loop-r.invariant.1 (omega (arith, c.loop-r-test.true, c.unknowns-n.ensures)) (row_laid_lem (full_lattice c.args.l c.args.st.now) c.args.g c.args.u.now c.loop-r.r c.at-p.ensures c.fixed_at-fixed.ensures c.row_columns-count.ensures) (omega (arith, c.loop-r.invariant.0, c.requires.by_index c.loop-r.r (omega (arith, c.loop-r-test.true, c.unknowns-n.ensures)))) c.requires.part_room)

pub loop-r-smaller : goal.loop-r-smaller
loop-r-smaller c = omega (arith, c.loop-r-test.true)

pub loop-r-preserved : goal.loop-r-preserved
loop-r-preserved c = (laid_same (row_laid_lem (full_lattice c.args.l c.args.st.now) c.args.g c.args.u.now c.loop-r.r c.at-p.ensures c.fixed_at-fixed.ensures c.row_columns-count.ensures) ∙ c.loop-r.invariant.0, laid_turn c.loop-r.invariant.1 (omega (arith, c.loop-r-test.true, c.unknowns-n.ensures)) (row_laid_lem (full_lattice c.args.l c.args.st.now) c.args.g c.args.u.now c.loop-r.r c.at-p.ensures c.fixed_at-fixed.ensures c.row_columns-count.ensures) (omega (arith, c.loop-r.invariant.0, c.requires.by_index c.loop-r.r (omega (arith, c.loop-r-test.true, c.unknowns-n.ensures)))) c.same_row.ensures (c.if-not-same_row.false))

pub overflow_add-result : goal.overflow_add-result
overflow_add-result c = omega (arith, c.unknowns-n.ensures, c.requires.part_room.starts_room)

pub offset_bounds-starts-s : goal.offset_bounds-starts-s
offset_bounds-starts-s c = omega (arith, c.unknowns-n.ensures, c.requires.part_room.starts_room)

pub bounds-starts-s : goal.bounds-starts-s
bounds-starts-s c = omega (arith, c.unknowns-n.ensures, c.requires.part_room.starts_room)

pub returns : goal.returns
returns c = going_end c.loop-r.invariant.1 (omega (arith, c.unknowns-n.ensures, c.loop-r-test.false)) (ap (λ (i : ℕ). eqb (get_or c.args.starts.now (c.args.o.s + i) 0) c.loop-r.k) c.unknowns-n.ensures)
