use mathlib.Core.Path.{◌∙◌}
use Rattle.weights.proofs.MeaningLaws.{span_of, weights_room, weights_laid, weights_finite}
use Rattle.weights.proofs.prolongation.weights.Goals as goal

pub invariant_of-list : goal.invariant_of-list
invariant_of-list c = record { span_of = span_of c.weighed-w.ensures c.requires.room_for }

pub finite_numbers-requires : goal.finite_numbers-requires
finite_numbers-requires c = weights_room c.weighed-w.ensures _ _ c.all_numbers-last.ensures c.requires.k_bound.0 c.requires.k_bound.1

pub returns-clause-values_after : goal.returns-clause-values_after
returns-clause-values_after c = weights_laid c.weighed-w.ensures _ _ c.all_numbers-last.ensures

pub returns-clause-value : goal.returns-clause-value
returns-clause-value c = c.finite_numbers.ensures ∙ weights_finite c.weighed-w.ensures _ _ c.all_numbers-last.ensures c.requires.k_bound.1
