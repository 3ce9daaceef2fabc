-- `operators::levels::galerkin_level` meets its contract: the relations pick the columns; the numbers are worked out from the rows in the lists.
-- Assumes nothing.
use Rattle.operators.proofs.GalerkinLevel.{next_limits, columns_room, given_asked, rows_asked, level_laid, level_finite}
use Rattle.operators.proofs.levels.galerkin_level.Goals as goal

pub level_columns-requires-clause-limits : goal.level_columns-requires-clause-limits
level_columns-requires-clause-limits c = next_limits c.requires.given

pub level_columns-requires-clause-s_bound : goal.level_columns-requires-clause-s_bound
level_columns-requires-clause-s_bound c = columns_room c.requires.given

pub unknowns-m-requires : goal.unknowns-m-requires
unknowns-m-requires c = next_limits c.requires.given

pub galerkin-requires-clause-rows_given : goal.galerkin-requires-clause-rows_given
galerkin-requires-clause-rows_given c = given_asked c.requires.given c.level_columns.ensures.starts_after c.level_columns.ensures.laid c.unknowns-m.ensures

pub galerkin-requires-clause-rows_ready : goal.galerkin-requires-clause-rows_ready
galerkin-requires-clause-rows_ready c = rows_asked c.requires.given c.level_columns.ensures.starts_after c.level_columns.ensures.laid c.unknowns-m.ensures

pub returns : goal.returns
returns c =
    record {
      operator = λ f L given. level_laid given c.level_columns.ensures.starts_after c.level_columns.ensures.laid c.unknowns-m.ensures c.galerkin.ensures;
      finite = λ f L given. level_finite given c.level_columns.ensures.starts_after c.level_columns.ensures.laid c.unknowns-m.ensures c.galerkin.ensures;
    }
