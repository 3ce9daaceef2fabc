use mathlib.Core.Path.{refl}
use native.Mathlib.Omega.{arith}
use Rattle.std.proofs.Common.{◌≡◌, ◌-◌, suc}
use Rattle.std.proofs.lemmas.Result.{err_from_is_err_and}
use Rattle.std.specs.Prelude.{Ok, Err}
use Rattle.lattice.specs.Levels.{depth_verdict}
use Rattle.lattice.specs.Sound.{full}
use Rattle.store.specs.Lists.{store_with}
use Rattle.store.specs.Steps.{answer_of, structure_by}
use Rattle.store.specs.Store.{sizes}
use Rattle.store.specs.ChangeSteps.{change_to}
use Rattle.store.proofs.StructureLaws.{differs_none}
use Rattle.store.proofs.SettleLaws.{lines_found, fill_asked, err_refused}
use Rattle.store.proofs.ChangeLaws.{changed_refused, changed_differs, matched, changed_done, changed_bad, shaped_by, fixed_room, five_room, edit_passed}
use Rattle.changes.proofs.change.settle.Goals as goal
use Rattle.changes.proofs.change.settle.Goals.{In_ok-count}

pub structure-requires : goal.structure-requires
structure-requires c = lines_found c.join_lines-found.ensures

pub returns-in_err-count-clause-changed : goal.returns-in_err-count-clause-changed
returns-in_err-count-clause-changed c =
    let p = err_from_is_err_and c.from_residual.result c.from_residual.ensures.1 in
    let f : answer_of (Err c.in_err-count.field-0.0) ≡ structure_by (full c.args.l.now) c.args.choice (depth_verdict c.join_lines-found.result.depth) (sizes (store_with c.args.s.now c.args.n.now)) = grind arith in
    rw (p.1, p.2) (changed_refused _ _ _ (store_with c.args.s.now c.args.n.now) (change_to c.args.edge c.args.value) c.join_lines-found.ensures.depth_is f (err_refused _))

-- the level count is what the structure answered, at the lengths of the lists
counted : (c : In_ok-count)
    → answer_of (Ok c.in_ok-count.count) ≡ structure_by (full c.args.l.now) c.args.choice (depth_verdict c.join_lines-found.result.depth) (sizes (store_with c.args.s.now c.args.n.now))
counted c = grind arith

pub invariant_of-h-clause-few : goal.invariant_of-h-clause-few
invariant_of-h-clause-few c = (fill_asked (lines_found c.join_lines-found.ensures) c.transfers_of.ensures (counted (goal.at.invariant_of-h-clause-few c).In_ok-count) refl).0

pub invariant_of-h-clause-has_lines : goal.invariant_of-h-clause-has_lines
invariant_of-h-clause-has_lines c = (fill_asked (lines_found c.join_lines-found.ensures) c.transfers_of.ensures (counted (goal.at.invariant_of-h-clause-has_lines c).In_ok-count) refl).1

pub first_difference-requires-clause-m_in_bounds : goal.first_difference-requires-clause-m_in_bounds
first_difference-requires-clause-m_in_bounds c = (fill_asked (lines_found c.join_lines-found.ensures) c.transfers_of.ensures (counted (goal.at.first_difference-requires-clause-m_in_bounds c).In_ok-count) refl).2.ends_room

pub first_difference-requires-clause-fixed_room : goal.first_difference-requires-clause-fixed_room
first_difference-requires-clause-fixed_room c = fixed_room (store_with c.args.s.now c.args.n.now) (fill_asked (lines_found c.join_lines-found.ensures) c.transfers_of.ensures (counted (goal.at.first_difference-requires-clause-fixed_room c).In_ok-count) refl).2

pub returns-in-Some-clause-changed : goal.returns-in-Some-clause-changed
returns-in-Some-clause-changed c = changed_differs _ _ _ (store_with c.args.s.now c.args.n.now) (change_to c.args.edge c.args.value) c.join_lines-found.ensures.depth_is (counted (goal.at.returns-in-Some-clause-changed c).In_ok-count) refl c.transfers_of.ensures c.in-Some.ensures.1 (omega (arith, c.in-Some.ensures.0))

pub renew-requires-clause-shaped : goal.renew-requires-clause-shaped
renew-requires-clause-shaped c = let q = (fill_asked (lines_found c.join_lines-found.ensures) c.transfers_of.ensures (counted (goal.at.renew-requires-clause-shaped c).In_ok-count) refl) in shaped_by (store_with c.args.s.now c.args.n.now) c.args.l.now.limits q.0 q.2 (matched _ _ _ (store_with c.args.s.now c.args.n.now) (change_to c.args.edge c.args.value) c.join_lines-found.ensures.depth_is (counted (goal.at.renew-requires-clause-shaped c).In_ok-count) refl c.transfers_of.ensures c.in_default.ensures (omega arith))

pub renew-requires-clause-five_room : goal.renew-requires-clause-five_room
renew-requires-clause-five_room c = five_room (store_with c.args.s.now c.args.n.now) (fill_asked (lines_found c.join_lines-found.ensures) c.transfers_of.ensures (counted (goal.at.renew-requires-clause-five_room c).In_ok-count) refl).2

pub renew-requires-clause-edge_bound : goal.renew-requires-clause-edge_bound
renew-requires-clause-edge_bound c = (edit_passed _ _ _ _ refl c.requires).0

pub returns-in-Ok-clause-changed : goal.returns-in-Ok-clause-changed
returns-in-Ok-clause-changed c = changed_done _ _ _ (store_with c.args.s.now c.args.n.now) (change_to c.args.edge c.args.value) c.join_lines-found.ensures.depth_is (counted (goal.at.returns-in-Ok-clause-changed c).In_ok-count) refl c.transfers_of.ensures c.in_default.ensures (omega arith) _ (c.in-Ok.ensures.renewed.changed c.args.s.now.ends.now (differs_none _ _ _ (store_with c.args.s.now c.args.n.now) (matched _ _ _ (store_with c.args.s.now c.args.n.now) (change_to c.args.edge c.args.value) c.join_lines-found.ensures.depth_is (counted (goal.at.returns-in-Ok-clause-changed c).In_ok-count) refl c.transfers_of.ensures c.in_default.ensures (omega arith))) (edit_passed _ _ _ _ refl c.requires).1) refl

pub returns-in-Err-clause-changed : goal.returns-in-Err-clause-changed
returns-in-Err-clause-changed c =
    let z : suc c.in-Err.field-0.0 - 1 ≡ c.in-Err.field-0.0 = omega arith in
    rw z at (changed_bad _ _ _ (store_with c.args.s.now c.args.n.now) (change_to c.args.edge c.args.value) c.join_lines-found.ensures.depth_is (counted (goal.at.returns-in-Err-clause-changed c).In_ok-count) refl c.transfers_of.ensures c.in_default.ensures (omega arith) (suc c.in-Err.field-0.0) (c.in-Err.ensures.renewed.changed c.args.s.now.ends.now (differs_none _ _ _ (store_with c.args.s.now c.args.n.now) (matched _ _ _ (store_with c.args.s.now c.args.n.now) (change_to c.args.edge c.args.value) c.join_lines-found.ensures.depth_is (counted (goal.at.returns-in-Err-clause-changed c).In_ok-count) refl c.transfers_of.ensures c.in_default.ensures (omega arith))) (edit_passed _ _ _ _ refl c.requires).1) (λ q. omega (arith, q)))
