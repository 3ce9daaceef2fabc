-- `operators::words::next_place` meets its contract.
-- Assumes nothing.
use Prim.Native.Nat.{◌/◌, ◌^◌}
use native.Mathlib.Omega.{arith}
use lib.Count.{trailing_le}
use borrow.Author.Rules.{rules}
use Rattle.operators.proofs.WordPlaces.{next_out, next_none, next_some}
use Rattle.operators.proofs.words.next_place.Goals as goal

pub returns-then-i-ge64 : goal.returns-then-i-ge64
returns-then-i-ge64 c = next_out _ _ c.requires c.if-i-ge64.true

pub returns-then-rest-eq0 : goal.returns-then-rest-eq0
returns-then-rest-eq0 c = next_none _ _ c.if-i-ge64.false c.if-rest-eq0.true

pub overflow_cast-result : goal.overflow_cast-result
overflow_cast-result c =
    omega (arith, trailing_le 64 (c.args.w / 2 ^ c.args.i))

pub overflow_add-result : goal.overflow_add-result
overflow_add-result c =
    omega (arith, trailing_le 64 (c.args.w / 2 ^ c.args.i))

pub returns : goal.returns
returns c = next_some _ _ c.if-i-ge64.false (search rules) (omega (arith, c.if-rest-eq0.false))
