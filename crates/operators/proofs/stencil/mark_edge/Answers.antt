-- `operators::stencil::mark_edge` meets its contract.
-- Assumes nothing.
use Rattle.operators.proofs.StencilLaws.{edge_fixed, edge_free}
use Rattle.operators.proofs.stencil.mark_edge.Goals as goal

pub returns-then-fixed : goal.returns-then-fixed
returns-then-fixed c = edge_fixed _ _ c.fixed.ensures c.if-fixed.true

pub returns : goal.returns
returns c = edge_free _ _ c.fixed.ensures c.if-fixed.false c.requires
