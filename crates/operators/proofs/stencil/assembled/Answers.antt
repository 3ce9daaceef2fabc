use mathlib.Core.Path.{sym, ◌∙◌}
use Rattle.numbers.proofs.Laws.{and_true, and_false}
use native.Mathlib.Omega.{arith}
use Rattle.lattice.proofs.GridLaws.{unknowns_most}
use Rattle.operators.proofs.StencilLaws.{assembling_start, assembling_turn, assembling_end}
use Rattle.operators.proofs.stencil.assembled.Goals.{then-finite, else-finite}
use Rattle.operators.proofs.stencil.assembled.Goals as goal

pub loop-r-init : goal.loop-r-init
loop-r-init c = (omega (arith, unknowns_most c.args.l.now.limits, c.unknowns-n.ensures), assembling_start)

pub lay_row-row-requires-clause-k_bound : goal.lay_row-row-requires-clause-k_bound
lay_row-row-requires-clause-k_bound c = let u = c.loop-r.invariant in
    omega (arith, c.loop-r-test.true, u.0, u.1.most, c.requires.s_bound.1)

pub loop-r-preserved : goal.loop-r-preserved
loop-r-preserved c =
    let u = c.loop-r.invariant in
    let e = c.lay_row-row.ensures in (
      u.0,
      assembling_turn u.1 c.loop-r-test.true e.wrote e.finite_value.0 e.finite_value.1
          (elim c.if-finite.branch [ then-finite w ↦ w.finite-is ∙ sym (and_true _ _ w.if-finite.true) | else-finite w ↦ w.finite-is ∙ sym (and_false _ _ w.if-finite.false) ]) c.push-in-loop-r.ensures,
    )

pub returns-clause-laid_rows : goal.returns-clause-laid_rows
returns-clause-laid_rows c = (assembling_end c.push.ensures c.loop-r.invariant.1 c.loop-r-test.false c.unknowns-n.ensures).0

pub returns-clause-value : goal.returns-clause-value
returns-clause-value c = (assembling_end c.push.ensures c.loop-r.invariant.1 c.loop-r-test.false c.unknowns-n.ensures).1
