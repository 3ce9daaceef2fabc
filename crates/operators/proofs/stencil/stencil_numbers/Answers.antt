-- `operators::stencil::stencil_numbers` meets its contract.
-- Assumes nothing.
use native.Mathlib.Omega.{arith}
use Rattle.numbers.proofs.TermLaws.{read_back}
use Rattle.operators.proofs.StencilLaws.{stencil_most, numbers_laid}
use Rattle.operators.proofs.stencil.stencil_numbers.Goals as goal

pub returns-clause-values_after : goal.returns-clause-values_after
returns-clause-values_after c = let e = read_back 30 c.row_from-n.ensures.wrote (stencil_most _ _ _) (omega arith) (omega arith) in (numbers_laid _ _ e c.lay_numbers.ensures.values_after c.lay_numbers.ensures.value).0

pub returns-clause-value : goal.returns-clause-value
returns-clause-value c = let e = read_back 30 c.row_from-n.ensures.wrote (stencil_most _ _ _) (omega arith) (omega arith) in (numbers_laid _ _ e c.lay_numbers.ensures.values_after c.lay_numbers.ensures.value).1
