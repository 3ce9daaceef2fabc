-- `lattice::check::check_scalars` meets its contract, test by test.
-- Assumes nothing.
use Prim.Native.Nat.{ℕ}
use mathlib.Core.Bool.{not}
use mathlib.Core.List.{[]}
use mathlib.Core.Path.{◌≡◌, sym, ◌∙◌, ap, refl}
use Rattle.lattice.specs.Check.{accepted}
use Rattle.lattice.proofs.CheckLaws.{first_met, test_met, test_passed, Passed, scalars_by_test}
use Rattle.numbers.proofs.Laws.{float_finite}
use Rattle.lattice.proofs.check.check_scalars.Goals as goal

-- no test is left
none_left : (i : ℕ) → first_met i [] ≡ accepted 0
unfolding first_met
none_left i = refl

pub returns-then-bad_length : goal.returns-then-bad_length
returns-then-bad_length c = sym (scalars_by_test _ ∙ test_met _ _ _ (sym c.bad_length.ensures ∙ c.if-bad_length.true))

pub returns-then-bad_length-2 : goal.returns-then-bad_length-2
returns-then-bad_length-2 c =
    let past-1 : Passed 1 c.args.v = scalars_by_test _ ∙ test_passed _ _ _ (sym c.bad_length.ensures ∙ c.if-bad_length.false) in
    sym (past-1 ∙ test_met _ _ _ (sym c.bad_length-2.ensures ∙ c.if-bad_length-2.true))

pub returns-then-bad_length-3 : goal.returns-then-bad_length-3
returns-then-bad_length-3 c =
    let past-1 : Passed 1 c.args.v = scalars_by_test _ ∙ test_passed _ _ _ (sym c.bad_length.ensures ∙ c.if-bad_length.false) in
    let past-2 : Passed 2 c.args.v = past-1 ∙ test_passed _ _ _ (sym c.bad_length-2.ensures ∙ c.if-bad_length-2.false) in
    sym (past-2 ∙ test_met _ _ _ (sym c.bad_length-3.ensures ∙ c.if-bad_length-3.true))

pub returns-then-bad_length-4 : goal.returns-then-bad_length-4
returns-then-bad_length-4 c =
    let past-1 : Passed 1 c.args.v = scalars_by_test _ ∙ test_passed _ _ _ (sym c.bad_length.ensures ∙ c.if-bad_length.false) in
    let past-2 : Passed 2 c.args.v = past-1 ∙ test_passed _ _ _ (sym c.bad_length-2.ensures ∙ c.if-bad_length-2.false) in
    let past-3 : Passed 3 c.args.v = past-2 ∙ test_passed _ _ _ (sym c.bad_length-3.ensures ∙ c.if-bad_length-3.false) in
    sym (past-3 ∙ test_met _ _ _ (sym c.bad_length-4.ensures ∙ c.if-bad_length-4.true))

pub returns-then-not-is_finite : goal.returns-then-not-is_finite
returns-then-not-is_finite c =
    let past-1 : Passed 1 c.args.v = scalars_by_test _ ∙ test_passed _ _ _ (sym c.bad_length.ensures ∙ c.if-bad_length.false) in
    let past-2 : Passed 2 c.args.v = past-1 ∙ test_passed _ _ _ (sym c.bad_length-2.ensures ∙ c.if-bad_length-2.false) in
    let past-3 : Passed 3 c.args.v = past-2 ∙ test_passed _ _ _ (sym c.bad_length-3.ensures ∙ c.if-bad_length-3.false) in
    let past-4 : Passed 4 c.args.v = past-3 ∙ test_passed _ _ _ (sym c.bad_length-4.ensures ∙ c.if-bad_length-4.false) in
    sym (past-4 ∙ test_met _ _ _ (sym (ap not (c.is_finite.ensures.value ∙ float_finite _)) ∙ ap not c.if-not-is_finite.true))

pub returns-then-bad_phase : goal.returns-then-bad_phase
returns-then-bad_phase c =
    let past-1 : Passed 1 c.args.v = scalars_by_test _ ∙ test_passed _ _ _ (sym c.bad_length.ensures ∙ c.if-bad_length.false) in
    let past-2 : Passed 2 c.args.v = past-1 ∙ test_passed _ _ _ (sym c.bad_length-2.ensures ∙ c.if-bad_length-2.false) in
    let past-3 : Passed 3 c.args.v = past-2 ∙ test_passed _ _ _ (sym c.bad_length-3.ensures ∙ c.if-bad_length-3.false) in
    let past-4 : Passed 4 c.args.v = past-3 ∙ test_passed _ _ _ (sym c.bad_length-4.ensures ∙ c.if-bad_length-4.false) in
    let past-5 : Passed 5 c.args.v = past-4 ∙ test_passed _ _ _ (sym (ap not (c.is_finite.ensures.value ∙ float_finite _)) ∙ ap not c.if-not-is_finite.false) in
    sym (past-5 ∙ test_met _ _ _ (sym c.bad_phase.ensures ∙ c.if-bad_phase.true))

pub returns-then-bad_phase-2 : goal.returns-then-bad_phase-2
returns-then-bad_phase-2 c =
    let past-1 : Passed 1 c.args.v = scalars_by_test _ ∙ test_passed _ _ _ (sym c.bad_length.ensures ∙ c.if-bad_length.false) in
    let past-2 : Passed 2 c.args.v = past-1 ∙ test_passed _ _ _ (sym c.bad_length-2.ensures ∙ c.if-bad_length-2.false) in
    let past-3 : Passed 3 c.args.v = past-2 ∙ test_passed _ _ _ (sym c.bad_length-3.ensures ∙ c.if-bad_length-3.false) in
    let past-4 : Passed 4 c.args.v = past-3 ∙ test_passed _ _ _ (sym c.bad_length-4.ensures ∙ c.if-bad_length-4.false) in
    let past-5 : Passed 5 c.args.v = past-4 ∙ test_passed _ _ _ (sym (ap not (c.is_finite.ensures.value ∙ float_finite _)) ∙ ap not c.if-not-is_finite.false) in
    let past-6 : Passed 6 c.args.v = past-5 ∙ test_passed _ _ _ (sym c.bad_phase.ensures ∙ c.if-bad_phase.false) in
    sym (past-6 ∙ test_met _ _ _ (sym c.bad_phase-2.ensures ∙ c.if-bad_phase-2.true))

pub returns-then-bad_phase-3 : goal.returns-then-bad_phase-3
returns-then-bad_phase-3 c =
    let past-1 : Passed 1 c.args.v = scalars_by_test _ ∙ test_passed _ _ _ (sym c.bad_length.ensures ∙ c.if-bad_length.false) in
    let past-2 : Passed 2 c.args.v = past-1 ∙ test_passed _ _ _ (sym c.bad_length-2.ensures ∙ c.if-bad_length-2.false) in
    let past-3 : Passed 3 c.args.v = past-2 ∙ test_passed _ _ _ (sym c.bad_length-3.ensures ∙ c.if-bad_length-3.false) in
    let past-4 : Passed 4 c.args.v = past-3 ∙ test_passed _ _ _ (sym c.bad_length-4.ensures ∙ c.if-bad_length-4.false) in
    let past-5 : Passed 5 c.args.v = past-4 ∙ test_passed _ _ _ (sym (ap not (c.is_finite.ensures.value ∙ float_finite _)) ∙ ap not c.if-not-is_finite.false) in
    let past-6 : Passed 6 c.args.v = past-5 ∙ test_passed _ _ _ (sym c.bad_phase.ensures ∙ c.if-bad_phase.false) in
    let past-7 : Passed 7 c.args.v = past-6 ∙ test_passed _ _ _ (sym c.bad_phase-2.ensures ∙ c.if-bad_phase-2.false) in
    sym (past-7 ∙ test_met _ _ _ (sym c.bad_phase-3.ensures ∙ c.if-bad_phase-3.true))

pub returns : goal.returns
returns c =
    let past-1 : Passed 1 c.args.v = scalars_by_test _ ∙ test_passed _ _ _ (sym c.bad_length.ensures ∙ c.if-bad_length.false) in
    let past-2 : Passed 2 c.args.v = past-1 ∙ test_passed _ _ _ (sym c.bad_length-2.ensures ∙ c.if-bad_length-2.false) in
    let past-3 : Passed 3 c.args.v = past-2 ∙ test_passed _ _ _ (sym c.bad_length-3.ensures ∙ c.if-bad_length-3.false) in
    let past-4 : Passed 4 c.args.v = past-3 ∙ test_passed _ _ _ (sym c.bad_length-4.ensures ∙ c.if-bad_length-4.false) in
    let past-5 : Passed 5 c.args.v = past-4 ∙ test_passed _ _ _ (sym (ap not (c.is_finite.ensures.value ∙ float_finite _)) ∙ ap not c.if-not-is_finite.false) in
    let past-6 : Passed 6 c.args.v = past-5 ∙ test_passed _ _ _ (sym c.bad_phase.ensures ∙ c.if-bad_phase.false) in
    let past-7 : Passed 7 c.args.v = past-6 ∙ test_passed _ _ _ (sym c.bad_phase-2.ensures ∙ c.if-bad_phase-2.false) in
    let past-8 : Passed 8 c.args.v = past-7 ∙ test_passed _ _ _ (sym c.bad_phase-3.ensures ∙ c.if-bad_phase-3.false) in
    sym (past-8 ∙ none_left 8)
