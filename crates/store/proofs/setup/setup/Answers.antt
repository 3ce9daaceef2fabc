use mathlib.Core.Path.{refl}
use Rattle.std.proofs.lemmas.Result.{err_from_is_err_and}
use Rattle.lattice.proofs.CheckLaws.{refused_unsound}
use Rattle.store.specs.Lists.{store_of}
use Rattle.store.specs.Setup.{input_on}
use Rattle.store.proofs.SettleLaws.{setup_refused, setup_sound, setup_given, setup_settled}
use Rattle.store.proofs.setup.setup.Goals as goal

pub returns-in_err-check-clause-left : goal.returns-in_err-check-clause-left
returns-in_err-check-clause-left c =
    let p = err_from_is_err_and c.from_residual.result c.from_residual.ensures.1 in
    rw (p.1, p.2) (setup_refused (input_on c.args.v c.args.on.now c.args.choice c.args.coarsest) c.args.given.now (store_of c.args.lists.now) c.in_err-check.ensures (refused_unsound c.in_err-check.field-0.0))

pub stretches-st-requires-clause-lengths : goal.stretches-st-requires-clause-lengths
stretches-st-requires-clause-lengths c = (setup_sound (input_on c.args.v c.args.on.now c.args.choice c.args.coarsest) c.args.given.now (store_of c.args.lists.now) c.in_ok-check.ensures refl).1

pub stretches-st-requires-clause-lengths_2 : goal.stretches-st-requires-clause-lengths_2
stretches-st-requires-clause-lengths_2 c = (setup_sound (input_on c.args.v c.args.on.now c.args.choice c.args.coarsest) c.args.given.now (store_of c.args.lists.now) c.in_ok-check.ensures refl).2

pub invariant_of-l : goal.invariant_of-l
invariant_of-l c = record { limits = (setup_sound (input_on c.args.v c.args.on.now c.args.choice c.args.coarsest) c.args.given.now (store_of c.args.lists.now) c.in_ok-check.ensures refl).0 }

pub settle-requires : goal.settle-requires
settle-requires c = setup_given (input_on c.args.v c.args.on.now c.args.choice c.args.coarsest) c.args.given.now (store_of c.args.lists.now) c.in_ok-check.ensures refl c.stretches-st.ensures.1

pub returns-clause-left : goal.returns-clause-left
returns-clause-left c = setup_settled (input_on c.args.v c.args.on.now c.args.choice c.args.coarsest) c.args.given.now (store_of c.args.lists.now) c.in_ok-check.ensures refl c.stretches-st.ensures.1 c.settle.ensures.left
