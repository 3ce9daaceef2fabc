-- `weights::rows::weights_row` meets its contract.
-- Assumes nothing.
use mathlib.Core.Path.{◌∙◌}
use Rattle.weights.proofs.RowLaws.{at_low}
use Rattle.weights.proofs.RowNumbers.{row_is, row_room, row_finite, row_few}
use Rattle.weights.proofs.rows.weights_row.Goals as goal

pub numbers_at-last-requires-clause-slots : goal.numbers_at-last-requires-clause-slots
numbers_at-last-requires-clause-slots c = at_low c.args.t.now.span_of.fine_in c.requires.r_bound c.at.ensures

pub finite_numbers-requires : goal.finite_numbers-requires
finite_numbers-requires c = row_room _ _ _ _ _ _ _ _ _ c.at.ensures c.numbers_at-last.ensures (row_few c.args.t.now.span_of.fine_in c.args.t.now.span_of.places c.requires.r_bound) c.requires.at_bound.0 c.requires.at_bound.1

pub returns : goal.returns
returns c =
    record {
      numbers_are = row_is _ _ _ _ _ _ _ _ _ c.at.ensures c.numbers_at-last.ensures;
      finite = c.finite_numbers.ensures ∙ row_finite _ _ _ _ _ _ _ _ _ c.at.ensures c.numbers_at-last.ensures c.requires.at_bound.1;
    }
