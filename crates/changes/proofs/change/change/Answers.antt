use mathlib.Core.Path.{refl, sym, ap}
use Rattle.std.proofs.lemmas.Result.{err_from_is_err_and}
use Rattle.lattice.proofs.CheckLaws.{told, refused_unsound, stretches_sound}
use Rattle.lattice.specs.Check.{is_sound}
use Rattle.store.specs.Lists.{store_with}
use Rattle.store.specs.Setup.{input_on}
use Rattle.store.proofs.SettleLaws.{change_refused}
use Rattle.store.proofs.ChangeLaws.{change_checked, change_edit, change_settled}
use Rattle.changes.proofs.change.change.Goals as goal

pub returns-in_err-check_stretches-clause-changed : goal.returns-in_err-check_stretches-clause-changed
returns-in_err-check_stretches-clause-changed c =
    let p = err_from_is_err_and c.from_residual.result c.from_residual.ensures.1 in
    rw (p.1, p.2) (change_checked (input_on c.args.v c.args.on.now c.args.choice c.args.coarsest) (store_with c.args.s.now c.args.n.now) c.args.edge c.args.value c.in_err-check_stretches.ensures (refused_unsound c.in_err-check_stretches.field-0.0))

pub edit-requires : goal.edit-requires
edit-requires c = (stretches_sound c.args.v _ _ _ _ _ _ (told c.in_ok-check_stretches.ensures)).0

pub returns-in_err-edit-clause-changed : goal.returns-in_err-edit-clause-changed
returns-in_err-edit-clause-changed c =
    let p = err_from_is_err_and c.from_residual-in_err-edit.result c.from_residual-in_err-edit.ensures.1 in
    rw (p.1, p.2) (change_edit (input_on c.args.v c.args.on.now c.args.choice c.args.coarsest) (store_with c.args.s.now c.args.n.now) c.args.edge c.args.value c.in_ok-check_stretches.ensures refl c.in_err-edit.ensures (change_refused c.in_err-edit.field-0.0))

pub stretches-st-requires-clause-lengths : goal.stretches-st-requires-clause-lengths
stretches-st-requires-clause-lengths c = (stretches_sound c.args.v _ _ _ _ _ _ (told c.in_ok-check_stretches.ensures)).1

pub stretches-st-requires-clause-lengths_2 : goal.stretches-st-requires-clause-lengths_2
stretches-st-requires-clause-lengths_2 c = (stretches_sound c.args.v _ _ _ _ _ _ (told c.in_ok-check_stretches.ensures)).2

pub invariant_of-l : goal.invariant_of-l
invariant_of-l c = record { limits = (stretches_sound c.args.v _ _ _ _ _ _ (told c.in_ok-check_stretches.ensures)).0 }

pub settle-requires : goal.settle-requires
settle-requires c = ap is_sound (sym c.in_ok-edit.ensures)

pub returns-clause-changed : goal.returns-clause-changed
returns-clause-changed c = change_settled (input_on c.args.v c.args.on.now c.args.choice c.args.coarsest) (store_with c.args.s.now c.args.n.now) c.args.edge c.args.value c.in_ok-check_stretches.ensures refl c.in_ok-edit.ensures refl c.stretches-st.ensures.1 c.settle.ensures.changed
