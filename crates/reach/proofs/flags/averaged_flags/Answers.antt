-- `reach::flags::averaged_flags` meets its contract.
-- Assumes nothing.
use native.Mathlib.Omega.{arith}
use Rattle.std.proofs.Common.{◌≡◌, ◌<◌, ◌≤◌, length, rules}
use Rattle.numbers.specs.Lists.{tabulate}
use Rattle.lattice.specs.Grid.{unknowns_of}
use Rattle.weights.specs.Tables.{node_no, node_count}
use Rattle.weights.specs.TwoLevels.{fine_grid, coarse_grid}
use Rattle.weights.specs.Pair.{two}
use Rattle.lattice.specs.Sound.{full}
use Rattle.operators.specs.Averaged.{PairedLines, averaged_reads}
use Rattle.store.proofs.RenewTransferLaws.{pair_nested}
use Rattle.store.proofs.PassLaws.{averaged_asked, averaged_raised}
use Rattle.reach.proofs.flags.averaged_flags.Goals as goal

pub edges-n-requires : goal.edges-n-requires
edges-n-requires c = omega (arith, c.requires.level_lt_m)

pub invariant_of-nested : goal.invariant_of-nested
invariant_of-nested c = record { lines = pair_nested c.args.h.now.l.limits c.pair-pair.ensures }

pub raise_each-requires-clause-n_in_bounds : goal.raise_each-requires-clause-n_in_bounds
raise_each-requires-clause-n_in_bounds c = omega (arith, (averaged_asked c.args.h.now.l.limits c.pair-pair.ensures c.args.flags.now c.args.out.now c.nodes-nn.ensures c.edges-n.ensures c.requires.level_in_bounds).1.1.1.1)

pub raise_each-requires-clause-calls : goal.raise_each-requires-clause-calls
raise_each-requires-clause-calls c = λ r h.
    let q = (averaged_asked c.args.h.now.l.limits c.pair-pair.ensures c.args.flags.now c.args.out.now c.nodes-nn.ensures c.edges-n.ensures c.requires.level_in_bounds) in
    let t = two c.pair-pair.result in
    let b : r < unknowns_of (coarse_grid t) = omega (arith, h, q.1.1.1.0) in
    let w : PairedLines (full c.pair-pair.result.l) c.pair-pair.result.fine c.pair-pair.result.coarse
    × ((c.nodes-nn.result ≡ tabulate (node_no t) node_count 0) × ((r < unknowns_of (coarse_grid t)) × (unknowns_of (fine_grid t) ≤ length c.args.flags.now))) =
    (q.0, (q.1.0, (b, q.1.1.0))) in
    λ κs a b'. search w

pub returns : goal.returns
returns c =
    let e = c.raise_each.ensures c.args.flags.now (averaged_reads (two c.pair-pair.result)) (λ r b h p. search rules) in
    averaged_raised c.args.h.now.l.limits c.pair-pair.ensures c.edges-n.ensures e
