use mathlib.Core.Path.{refl, ◌∙◌}
use Prim.Native.Nat.{◌+◌, ◌-◌}
use lib.ListN.{get_or, take, drop}
use native.Mathlib.Omega.{arith}
use Rattle.std.proofs.Common.{rules, tests}
use Rattle.std.specs.Prelude.{nat_eq}
use Rattle.std.specs.List.{list_any}
use Rattle.std.proofs.lemmas.Iterator.{YieldsList-from_range}
use Rattle.std.proofs.lemmas.Iterator.Search.{any_from_yields_List}
use Rattle.numbers.proofs.RepeatLaws.{repeats_along}
use Rattle.numbers.proofs.lists.repeats.Goals as goal

pub returns : goal.returns
returns c =
    any_from_yields_List (λ m. list_any (λ y. nat_eq y (get_or c.args.columns.now m 0)) (take (c.args.n - (m + 1)) (drop (m + 1) c.args.columns.now))) _ _ c.any.result c.any.ensures.ran (YieldsList-from_range _ _ c.args.n refl (omega arith)) (λ x b q k. search (rules, tests))
    ∙ repeats_along _ _ c.requires
