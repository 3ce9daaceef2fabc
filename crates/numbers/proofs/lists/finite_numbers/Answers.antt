use mathlib.Core.Path.{refl, ◌∙◌}
use native.Mathlib.Omega.{arith}
use Rattle.std.proofs.Common.{rules, tests}
use Rattle.std.proofs.lemmas.Iterator.{YieldsList-from_range}
use Rattle.std.proofs.lemmas.Iterator.Search.{all_from_yields_List}
use Rattle.numbers.specs.Complex.{finite}
use Rattle.numbers.specs.Places.{number_at}
use Rattle.numbers.proofs.ListLaws.{finite_along}
use Rattle.numbers.proofs.lists.finite_numbers.Goals as goal

pub returns : goal.returns
returns c =
    all_from_yields_List (λ m. finite (number_at c.args.list.now m)) _ _ c.all.result c.all.ensures.ran (YieldsList-from_range _ _ c.args.n refl (omega arith)) (λ x b q k. search (rules, tests))
    ∙ finite_along _ _ _
