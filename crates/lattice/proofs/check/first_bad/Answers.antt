-- `lattice::check::first_bad` meets its contract.
use mathlib.Core.Path.{◌≡◌}
use mathlib.Core.Bool.{true, false}
use Rattle.std.proofs.Common.{rules, tests}
use Rattle.std.proofs.lemmas.Iterator.{first_from_Range}
use Rattle.numbers.specs.Places.{number_at}
use Rattle.lattice.specs.Check.{bad_number}
use Rattle.lattice.proofs.CheckLaws.{bad_is}
use Rattle.lattice.proofs.check.first_bad.Goals as goal

pub returns : goal.returns
returns c =
    bad_is _ _ _
    (first_from_Range _ _ _ c.find.result (λ i. bad_number (number_at c.args.xs.now i) ≡ true) (λ i. bad_number (number_at c.args.xs.now i) ≡ false) c.find.ensures.ran
    (λ x q k. search (rules, tests)) (λ x q k. search (rules, tests)))
