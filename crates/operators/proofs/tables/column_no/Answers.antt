-- `operators::tables::column_no` meets its contract.
-- Assumes nothing.
use native.Mathlib.Omega.{arith}
use borrow.Author.Tests.{lt-ltb, le-ltb}
use Rattle.operators.specs.Numbered.{column_no}
use Rattle.operators.proofs.tables.column_no.Goals as goal

pub returns-then-w-lt4 : goal.returns-then-w-lt4
unfolding column_no
returns-then-w-lt4 c = (rw (lt-ltb _ _ c.if-w-lt4.true), omega arith)

pub returns : goal.returns
unfolding column_no
returns c = (rw (le-ltb _ _ c.if-w-lt4.false), omega arith)
