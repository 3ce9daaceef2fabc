-- `store::needs::operator_terms` meets its contract.
-- Assumes nothing.
use Rattle.store.specs.declared.Choice.TheVariants.{Galerkin, Rediscretized}
use Rattle.store.proofs.NeedLaws.{terms_sole, terms_coarse}
use Rattle.store.proofs.needs.operator_terms.Goals as goal

pub returns-then-h-eq0 : goal.returns-then-h-eq0
returns-then-h-eq0 c = terms_sole _ _ c.args.choice c.if-h-eq0.true (c.sole_terms.ensures.value, c.sole_terms.ensures.value_2)

pub returns-in-Galerkin : goal.returns-in-Galerkin
returns-in-Galerkin c = rw c.in-Galerkin.is (terms_coarse _ _ Galerkin c.if-h-eq0.false c.galerkin_terms.ensures)

pub returns-in-Rediscretized : goal.returns-in-Rediscretized
returns-in-Rediscretized c = rw c.in-Rediscretized.is (terms_coarse _ _ Rediscretized c.if-h-eq0.false c.rediscretized_terms.ensures)
