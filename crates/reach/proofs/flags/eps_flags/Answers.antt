-- `reach::flags::eps_flags` meets its contract.
-- Assumes nothing.
use native.Mathlib.Omega.{arith}
use Rattle.std.proofs.Common.{◌<◌, rules}
use Rattle.lattice.specs.Grid.{Limits, unknowns_of}
use Rattle.weights.specs.Tables.{NestedIn, eps_reads_in}
use Rattle.store.proofs.PassLaws.{pass_limits, coarse_edges_lem, pass_nested, eps_raised}
use Rattle.reach.proofs.flags.eps_flags.Goals as goal

pub unknowns-n-requires : goal.unknowns-n-requires
unknowns-n-requires c = (pass_limits c.args.h.now.l.limits c.pair-pair.ensures c.grid_of-gf.ensures c.grid_of-gc.ensures).1

pub raise_each-requires-clause-n_in_bounds : goal.raise_each-requires-clause-n_in_bounds
raise_each-requires-clause-n_in_bounds c = omega (arith, c.requires.level_in_bounds, c.unknowns-n.ensures, coarse_edges_lem c.args.h.now.l.limits c.pair-pair.ensures c.grid_of-gf.ensures c.grid_of-gc.ensures)

pub raise_each-requires-clause-calls : goal.raise_each-requires-clause-calls
raise_each-requires-clause-calls c = λ r h.
    let w : ((Limits c.grid_of-gf.result) × (Limits c.grid_of-gc.result)) × ((NestedIn c.grid_of-gf.result c.grid_of-gc.result c.nodes-nn.result) × (r < unknowns_of c.grid_of-gc.result)) =
    (pass_limits c.args.h.now.l.limits c.pair-pair.ensures c.grid_of-gf.ensures c.grid_of-gc.ensures, (pass_nested c.args.h.now.l.limits c.pair-pair.ensures c.grid_of-gf.ensures c.grid_of-gc.ensures c.nodes-nn.ensures, omega (arith, h, c.unknowns-n.ensures))) in
    λ κs a b. search w

pub returns : goal.returns
returns c =
    let e = c.raise_each.ensures c.args.flags.now (eps_reads_in c.grid_of-gf.result c.grid_of-gc.result c.nodes-nn.result) (λ r b h p. search rules) in
    eps_raised c.args.h.now.l.limits c.pair-pair.ensures c.grid_of-gf.ensures c.grid_of-gc.ensures c.nodes-nn.ensures (rw c.unknowns-n.ensures at e)
