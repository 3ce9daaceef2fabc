-- `store::needs::edges_from` meets its contract.
-- Assumes nothing.
use Prim.Native.Nat.{◌+◌}
use mathlib.Core.Path.{refl, ◌∙◌}
use native.Mathlib.Omega.{arith}
use Rattle.std.proofs.Common.{rules}
use Rattle.std.proofs.lemmas.Iterator.{YieldsList-from_range, YieldsList-from_map}
use Rattle.std.proofs.lemmas.Iterator.Consumers.{sum_from_yields_List, fits_from_yields_list}
use Rattle.operators.specs.LevelLists.{edges_on}
use Rattle.store.specs.Hierarchy.{the_lattice}
use Rattle.store.proofs.NeedLaws.{sum_along, sum_along_few}
use Rattle.store.proofs.SizeLaws.{edges_few}
use Rattle.store.proofs.needs.edges_from.Goals as goal

pub sum-requires-clause-fits : goal.sum-requires-clause-fits
sum-requires-clause-fits c =
    fits_from_yields_list c.map.result _
    (YieldsList-from_map _ (edges_on (the_lattice c.args.h.now)) (YieldsList-from_range _ _ c.args.n c.map.ensures.source (omega arith)) c.map.ensures.closure (λ x r q k. search rules))
    (omega (arith, sum_along_few (edges_on (the_lattice c.args.h.now)) (λ i. edges_on (the_lattice c.args.h.now) (c.args.from + i)) c.args.from c.args.n 12288 (λ i b. refl) (λ i b. edges_few _ c.args.h.now.l.limits _), c.requires.n_bound, c.args.h.now.few))

pub returns : goal.returns
returns c =
    sum_from_yields_List c.map.result c.sum.result c.sum.ensures.ran
    (YieldsList-from_map _ (edges_on (the_lattice c.args.h.now)) (YieldsList-from_range _ _ c.args.n c.map.ensures.source (omega arith)) c.map.ensures.closure (λ x r q k. search rules))
    ∙ sum_along (edges_on (the_lattice c.args.h.now)) _ c.args.from c.args.n (λ i b. refl)
