-- `operators::stencil::lay_row` meets its contract.
-- Assumes nothing.
use native.Mathlib.Omega.{arith}
use Rattle.numbers.proofs.TermLaws.{read_back}
use Rattle.operators.proofs.StencilLaws.{stencil_most, row_laid_lem}
use Rattle.operators.proofs.stencil.lay_row.Goals as goal

pub returns-clause-wrote : goal.returns-clause-wrote
returns-clause-wrote c = let e = read_back 30 c.row_from-n.ensures.wrote (stencil_most _ _ _) (omega arith) (omega arith) in (row_laid_lem e c.lay_columns-next.ensures c.lay_numbers.ensures.values_after c.lay_numbers.ensures.value).0

pub returns-clause-finite_value : goal.returns-clause-finite_value
returns-clause-finite_value c = let e = read_back 30 c.row_from-n.ensures.wrote (stencil_most _ _ _) (omega arith) (omega arith) in (row_laid_lem e c.lay_columns-next.ensures c.lay_numbers.ensures.values_after c.lay_numbers.ensures.value).1
