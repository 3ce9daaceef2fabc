use Rattle.std.proofs.Common.{rules, ℕ, get_or}
use native.Mathlib.Omega.{arith}
use Rattle.operators.specs.Bits.{bit_at}
use Rattle.operators.proofs.ComposeLaws.{word_composed}
use Rattle.operators.proofs.TableLaws.{filling_start, filling_turn, filling_end}
use Rattle.operators.proofs.compose.compose.Goals as goal

pub loop-c-init : goal.loop-c-init
loop-c-init c = (omega arith, filling_start)

pub loop-c-preserved : goal.loop-c-preserved
loop-c-preserved c =
    let p = λ (k : ℕ). bit_at (get_or c.args.f.now k 0) c.loop-c.c in (
      omega arith,
      filling_turn c.loop-c.invariant.1 c.loop-c-test.true
          (word_composed _ _ _ _ _
          (rw c.requires.1 at c.gathered-u.ensures p (λ k b h e. search rules))
          (rw c.requires.2 at c.gathered.ensures (bit_at c.gathered-u.result) (λ k b h e. search rules))),
    )

pub returns : goal.returns
returns c = filling_end c.loop-c.invariant.1 c.loop-c-test.false
