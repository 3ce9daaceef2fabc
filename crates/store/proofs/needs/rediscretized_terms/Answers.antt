-- `store::needs::rediscretized_terms` meets its contract.
-- Assumes nothing.
use Prim.Native.Nat.{◌+◌, suc}
use mathlib.Core.Path.{ap, ◌∙◌}
use native.Mathlib.Omega.{arith}
use Rattle.std.proofs.Common.{rules}
use Rattle.std.proofs.lemmas.Iterator.{YieldsList-from_range, YieldsList-from_map}
use Rattle.std.proofs.lemmas.Iterator.Consumers.{sum_from_yields_List, fits_from_yields_list}
use Rattle.store.specs.Hierarchy.{the_lattice}
use Rattle.store.specs.Layout.{operator_count}
use Rattle.store.specs.declared.Choice.TheVariants.{Rediscretized}
use Rattle.store.proofs.NeedLaws.{sum_along, sum_along_few}
use Rattle.store.proofs.SizeLaws.{operator_few}
use Rattle.store.proofs.needs.rediscretized_terms.Goals as goal

pub sum-requires-clause-fits : goal.sum-requires-clause-fits
sum-requires-clause-fits c =
    fits_from_yields_list c.map.result _
    (YieldsList-from_map _ (λ i. operator_count (the_lattice c.args.h.now) Rediscretized (i + 1)) (YieldsList-from_range _ _ c.args.h.now.m c.map.ensures.source (omega arith)) c.map.ensures.closure (λ x r q k. search rules))
    (omega (arith, sum_along_few (λ i. operator_count (the_lattice c.args.h.now) Rediscretized (i + 1)) (λ i. operator_count (the_lattice c.args.h.now) Rediscretized (suc i)) 0 c.args.h.now.m 150994944 (λ i b. ap (operator_count _ _) (omega arith)) (λ i b. operator_few _ c.args.h.now.l.limits Rediscretized _), c.args.h.now.few))

pub returns : goal.returns
returns c =
    sum_from_yields_List c.map.result c.sum.result c.sum.ensures.ran
    (YieldsList-from_map _ (λ i. operator_count (the_lattice c.args.h.now) Rediscretized (i + 1)) (YieldsList-from_range _ _ c.args.h.now.m c.map.ensures.source (omega arith)) c.map.ensures.closure (λ x r q k. search rules))
    ∙ sum_along (λ i. operator_count (the_lattice c.args.h.now) Rediscretized (i + 1)) (λ i. operator_count (the_lattice c.args.h.now) Rediscretized (suc i)) 0 c.args.h.now.m (λ i b. ap (operator_count _ _) (omega arith))
