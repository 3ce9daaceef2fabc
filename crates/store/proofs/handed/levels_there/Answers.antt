-- `store::handed::levels_there` meets its contract.
use mathlib.Core.Path.{refl, ◌∙◌}
use native.Mathlib.Omega.{arith}
use Rattle.std.proofs.Common.{rules, tests}
use Rattle.std.proofs.lemmas.Iterator.{YieldsList-from_range}
use Rattle.std.proofs.lemmas.Iterator.Search.{all_from_yields_List}
use Rattle.store.specs.Handed.{level_there}
use Rattle.store.proofs.HandedLaws.{levels_along}
use Rattle.store.proofs.handed.levels_there.Goals as goal

pub returns : goal.returns
returns c =
    all_from_yields_List (level_there c.args.c) _ _ c.all.result c.all.ensures.ran (YieldsList-from_range _ _ c.args.n refl (omega arith)) (λ x b q k. search (rules, tests))
    ∙ levels_along _ _
