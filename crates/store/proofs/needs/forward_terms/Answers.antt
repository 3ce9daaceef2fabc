-- `store::needs::forward_terms` meets its contract.
-- Assumes nothing.
use mathlib.Core.Path.{ap, ◌∙◌}
use native.Mathlib.Omega.{arith}
use Rattle.std.proofs.Common.{rules}
use Rattle.std.proofs.lemmas.Iterator.{YieldsList-from_range, YieldsList-from_map}
use Rattle.std.proofs.lemmas.Iterator.Consumers.{sum_from_yields_List, fits_from_yields_list}
use Rattle.store.specs.Hierarchy.{the_lattice}
use Rattle.store.specs.Layout.{forward_count}
use Rattle.store.proofs.NeedLaws.{sum_along, sum_along_few}
use Rattle.store.proofs.SizeLaws.{forward_few}
use Rattle.store.proofs.needs.forward_terms.Goals as goal

pub sum-requires-clause-fits : goal.sum-requires-clause-fits
sum-requires-clause-fits c =
    fits_from_yields_list c.map.result _
    (YieldsList-from_map _ (forward_count (the_lattice c.args.h.now)) (YieldsList-from_range _ _ c.args.h.now.m c.map.ensures.source (omega arith)) c.map.ensures.closure (λ x r q k. search rules))
    (omega (arith, sum_along_few (forward_count (the_lattice c.args.h.now)) (forward_count (the_lattice c.args.h.now)) 0 c.args.h.now.m 98304 (λ i b. ap (forward_count _) (omega arith)) (λ i b. forward_few _ c.args.h.now.l.limits i), c.args.h.now.few))

pub returns : goal.returns
returns c =
    sum_from_yields_List c.map.result c.sum.result c.sum.ensures.ran
    (YieldsList-from_map _ (forward_count (the_lattice c.args.h.now)) (YieldsList-from_range _ _ c.args.h.now.m c.map.ensures.source (omega arith)) c.map.ensures.closure (λ x r q k. search rules))
    ∙ sum_along (forward_count (the_lattice c.args.h.now)) (forward_count (the_lattice c.args.h.now)) 0 c.args.h.now.m (λ i b. ap (forward_count _) (omega arith))
