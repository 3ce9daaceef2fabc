use mathlib.Core.Path.{refl}
use Rattle.std.proofs.lemmas.Result.{err_from_is_err_and}
use Rattle.lattice.proofs.CheckLaws.{told, stretches_sound}
use Rattle.store.specs.Setup.{input_on}
use Rattle.store.proofs.NeededLaws.{needs_refused, needs_behind}
use Rattle.store.proofs.needed.setup_needs.Goals as goal

pub returns-in_err-check_stretches : goal.returns-in_err-check_stretches
returns-in_err-check_stretches c =
    let p = err_from_is_err_and c.from_residual.result c.from_residual.ensures.1 in
    rw (p.1, p.2) (needs_refused (input_on c.args.v c.args.on.now c.args.choice c.args.coarsest) c.in_err-check_stretches.ensures refl)

pub stretches-st-requires-clause-lengths : goal.stretches-st-requires-clause-lengths
stretches-st-requires-clause-lengths c = (stretches_sound c.args.v _ _ _ _ _ _ (told c.in_ok-check_stretches.ensures)).1

pub stretches-st-requires-clause-lengths_2 : goal.stretches-st-requires-clause-lengths_2
stretches-st-requires-clause-lengths_2 c = (stretches_sound c.args.v _ _ _ _ _ _ (told c.in_ok-check_stretches.ensures)).2

pub invariant_of-l : goal.invariant_of-l
invariant_of-l c = record { limits = (stretches_sound c.args.v _ _ _ _ _ _ (told c.in_ok-check_stretches.ensures)).0 }

pub returns : goal.returns
returns c = needs_behind (input_on c.args.v c.args.on.now c.args.choice c.args.coarsest) c.in_ok-check_stretches.ensures refl c.stretches-st.ensures.1 c.needed_behind.ensures
