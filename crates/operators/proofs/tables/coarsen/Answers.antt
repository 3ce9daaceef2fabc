use Prim.Native.Nat.{◌≤◌, ◌/◌, ◌<◌}
use mathlib.Core.Path.{◌≡◌, ap, ◌∙◌}
use native.Mathlib.Omega.{arith}
use lib.ListN.{length, get_or}
use Rattle.numbers.proofs.ListLaws.{laid_length}
use Rattle.operators.specs.Numbered.{words_below}
use Rattle.operators.proofs.TableLaws.{laid_none, laid_turn, below_cut}
use Rattle.operators.proofs.tables.coarsen.Goals as goal

pub loop-q-init : goal.loop-q-init
loop-q-init c = (omega arith, c.requires.coarse, laid_none _ _)

pub compose-requires : goal.compose-requires
compose-requires c =
    let q = c.loop-q.q in
    let b : q < 18 = c.loop-q-test.true in
    let n : get_or c.args.n.now (q / 6) 0 ≤ 64 = c.requires.small (q / 6) (omega arith) in
    let m : get_or c.args.m.now (q / 6) 0 ≤ 64 = c.requires.small_below (q / 6) (omega arith) in
    omega (arith, c.column_no-c.ensures.1, c.loop-q.invariant.1, c.requires.fine, c.requires.weights)

pub loop-q-preserved : goal.loop-q-preserved
loop-q-preserved c =
    let s = c.args in
    let q = c.loop-q.q in
    let b : q < 18 = c.loop-q-test.true in
    let n : get_or c.args.n.now (q / 6) 0 ≤ 64 = c.requires.small (q / 6) (omega arith) in
    let e = c.compose.ensures in (
      omega arith,
      ap length e ∙ laid_length _ _ _ ∙ c.loop-q.invariant.1,
      laid_turn (words_below s.t.now s.f.now s.n.now s.m.now) _ c.loop-q.invariant.2
          (below_cut _ _ _ _ _ c.column_no-c.ensures.0 (omega arith) (omega arith) (omega arith) (omega (arith, c.requires.weights)) (omega (arith, c.requires.fine))
          (omega (arith, c.column_no-c.ensures.1, c.requires.weights)))
          e,
    )

pub returns : goal.returns
returns c =
    let e : c.loop-q.q ≡ 18 = omega arith in
    rw e at c.loop-q.invariant.2
