-- `renew::cursor::step` meets its contract.
-- Assumes nothing.
use native.Mathlib.Omega.{arith}
use Rattle.store.proofs.CellLaws.{stepped_on, stepped_next}
use Rattle.renew.proofs.cursor.step.Goals as goal

pub overflow_add-c : goal.overflow_add-c
overflow_add-c c = let p = c.requires.0.part_in (λ z. omega (arith, z, c.requires.1)) in let r = c.requires.0.row_in (λ z. omega (arith, z, c.requires.1)) in omega (arith, c.args.w.now.fits.rows_few _ p)

pub find-requires : goal.find-requires
find-requires c = let p = c.requires.0.part_in (λ z. omega (arith, z, c.requires.1)) in let r = c.requires.0.row_in (λ z. omega (arith, z, c.requires.1)) in (p, omega arith)

pub returns-then-c-eq1 : goal.returns-then-c-eq1
returns-then-c-eq1 c = stepped_next c.args.c c.requires.0 c.find.result c.if-c-eq1.true c.find.ensures

pub overflow_add-result : goal.overflow_add-result
overflow_add-result c = omega (arith, c.requires.0.low)

pub overflow_sub-result : goal.overflow_sub-result
overflow_sub-result c = omega (arith, c.requires.1)

pub returns : goal.returns
returns c = stepped_on c.args.c c.requires.0 c.if-c-eq1.false c.requires.1
