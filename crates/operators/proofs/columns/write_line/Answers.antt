use mathlib.Core.Path.{refl}
use native.Mathlib.Omega.{arith}
use native.Mathlib.Nat.{sub-zero}
use Rattle.operators.proofs.ColumnLaws.{laid_start, line_turn, line_end}
use Rattle.operators.proofs.columns.write_line.Goals as goal

pub loop-i-init : goal.loop-i-init
loop-i-init c =
    rw (c.into_iter-i-iterator.ensures.into_iter_gives, c.places_below-i-items.ensures, sub-zero c.args.n)
    (refl, refl, omega arith, omega arith, laid_start)

pub loop-i-preserved : goal.loop-i-preserved
loop-i-preserved c =
    let v = c.loop-i.invariant in
    let s = c.in-Some.ensures.steps in
    rw s.after (
      v.0,
      v.1,
      omega (arith, s.below, c.loop-i.iterator),
      omega (arith, s.found.from, c.put-next.ensures.next),
      line_turn _ _ _ _ v.4 (rw v.0 at s.found) (rw v.1 at s.below) (omega arith) c.put-next.ensures,
    )

pub returns : goal.returns
returns c =
    let v = c.loop-i.invariant in
    let s = c.in-None.ensures.steps in
    line_end _ _ _ _ v.4 (rw v.0 at s.1) (rw v.1 at s.2)
