use native.Mathlib.Omega.{arith}
use Prim.Native.Nat.{ℕ, ◌+◌}
use mathlib.Core.Path.{◌∙◌, ap}
use Rattle.lattice.specs.Line.{ends_of}
use Rattle.lattice.proofs.LineLaws.{length_ends, ends_at, before_past}
use Rattle.lattice.proofs.line.before_from.Goals as goal

pub returns : goal.returns
unfolding ends_of
returns c =
    ap (λ (k : ℕ). c.args.from + k) c.before-2.ensures.value
    ∙ before_past _ _ (ends_of c.args.l) (omega (arith, length_ends c.args.l c.requires.held))
    (λ m h. rw (ends_at c.args.l m (omega arith)) (c.requires.by_index m h))
