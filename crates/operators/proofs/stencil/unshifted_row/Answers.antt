-- `operators::stencil::unshifted_row` meets its contract.
-- Assumes nothing.
use native.Mathlib.Omega.{arith}
use Rattle.lattice.proofs.RowLaws.{row_most}
use Rattle.numbers.proofs.TermLaws.{read_back}
use Rattle.operators.proofs.StencilLaws.{unshifted_wrote}
use Rattle.operators.proofs.stencil.unshifted_row.Goals as goal

pub collect-requires-clause-n_in_bounds : goal.collect-requires-clause-n_in_bounds
collect-requires-clause-n_in_bounds c = let e = read_back 29 c.row_into-n.ensures (row_most _ _ _) (omega arith) (omega arith) in
    (e.columns_room, e.numbers_room)

pub collect-requires-clause-n_in_bounds_2 : goal.collect-requires-clause-n_in_bounds_2
collect-requires-clause-n_in_bounds_2 c = let e = read_back 29 c.row_into-n.ensures (row_most _ _ _) (omega arith) (omega arith) in
    (omega (arith, e.most), omega (arith, e.most))

pub returns-clause-wrote : goal.returns-clause-wrote
returns-clause-wrote c = let e = read_back 29 c.row_into-n.ensures (row_most _ _ _) (omega arith) (omega arith) in
    (unshifted_wrote _ _ _ e c.collect.ensures).0

pub returns-clause-upper_bound : goal.returns-clause-upper_bound
returns-clause-upper_bound c = let e = read_back 29 c.row_into-n.ensures (row_most _ _ _) (omega arith) (omega arith) in
    (unshifted_wrote _ _ _ e c.collect.ensures).1
