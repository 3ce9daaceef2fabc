use mathlib.Core.Path.{refl}
use Rattle.std.proofs.lemmas.Result.{err_from_is_err_and}
use Rattle.std.specs.Prelude.{Err}
use Rattle.store.specs.Lists.{store_of}
use Rattle.store.specs.Setup.{result_of}
use Rattle.store.specs.Steps.{answer_of}
use Rattle.store.proofs.SettleLaws.{lines_found, sized, err_refused, settled_none, settled_done, settled_bad, fill_asked, fill_at}
use Rattle.store.proofs.setup.fill_levels.Goals as goal

pub structure-requires : goal.structure-requires
structure-requires c = lines_found c.join_lines-found.ensures

pub returns-in_err-n-clause-left : goal.returns-in_err-n-clause-left
returns-in_err-n-clause-left c =
    let p = err_from_is_err_and c.from_residual.result c.from_residual.ensures.1 in
    rw (p.1, p.2) (settled_none _ _ _ _ (store_of c.args.lists.now) c.join_lines-found.ensures.depth_is (sized _ _ _ c.in_err-n.ensures c.lengths.ensures) (result_of (answer_of (Err c.in_err-n.field-0.0)) (store_of c.args.lists.now)) (err_refused c.in_err-n.field-0.0))

pub invariant_of-h-clause-few : goal.invariant_of-h-clause-few
invariant_of-h-clause-few c = (fill_asked (lines_found c.join_lines-found.ensures) c.transfers_of.ensures (sized _ _ _ c.in_ok-n.ensures c.lengths.ensures) refl).0

pub invariant_of-h-clause-has_lines : goal.invariant_of-h-clause-has_lines
invariant_of-h-clause-has_lines c = (fill_asked (lines_found c.join_lines-found.ensures) c.transfers_of.ensures (sized _ _ _ c.in_ok-n.ensures c.lengths.ensures) refl).1

pub fill-bad-requires-clause-enough : goal.fill-bad-requires-clause-enough
fill-bad-requires-clause-enough c = (fill_asked (lines_found c.join_lines-found.ensures) c.transfers_of.ensures (sized _ _ _ c.in_ok-n.ensures c.lengths.ensures) refl).2

pub returns-in-Some-clause-left : goal.returns-in-Some-clause-left
returns-in-Some-clause-left c = settled_bad _ _ _ _ (store_of c.args.lists.now) c.join_lines-found.ensures.depth_is (sized _ _ _ c.in_ok-n.ensures c.lengths.ensures) refl (fill_at _ _ _ _ (store_of c.args.lists.now) c.join_lines-found.ensures.depth_is c.transfers_of.ensures c.in-Some.ensures.filled) refl refl

pub returns-clause-left : goal.returns-clause-left
returns-clause-left c = settled_done _ _ _ _ (store_of c.args.lists.now) c.join_lines-found.ensures.depth_is (sized _ _ _ c.in_ok-n.ensures c.lengths.ensures) refl (fill_at _ _ _ _ (store_of c.args.lists.now) c.join_lines-found.ensures.depth_is c.transfers_of.ensures c.in_default.ensures.filled) refl
