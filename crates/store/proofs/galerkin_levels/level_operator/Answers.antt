-- `store::galerkin_levels::level_operator` meets its contract.
-- Assumes nothing.
use native.Mathlib.Omega.{arith}
use Rattle.store.proofs.OperatorLaws.{ready_here, left_here}
use Rattle.store.proofs.LineLaws.{grid_is}
use Rattle.store.proofs.galerkin_levels.level_operator.Goals as goal

pub galerkin_level-requires : goal.galerkin_level-requires
galerkin_level-requires c = ready_here _ _ (grid_is _ _ c.args.h.now.has_lines c.requires.level_lt_m (omega arith) c.three.ensures c.grid_of-g.ensures) c.requires.o_value c.requires.level_ready

pub returns : goal.returns
returns c = left_here _ _ (grid_is _ _ c.args.h.now.has_lines c.requires.level_lt_m (omega arith) c.three.ensures c.grid_of-g.ensures) c.requires.o_value c.galerkin_level.ensures
