-- `weights::eps::coarse_eps` meets its contract.
-- Assumes nothing.
use Rattle.lattice.specs.Sound.{full}
use Rattle.weights.proofs.EpsLaws.{Chain, chain, fine_in, coarse_in, nested_in, chain_room, eps_laid, eps_room, eps_finite}
use Rattle.weights.proofs.eps.coarse_eps.Goals as goal

pub all_eps-requires-clause-limits : goal.all_eps-requires-clause-limits
all_eps-requires-clause-limits c = let levels : let a = c.args in
    Chain (full a.pair.now.l) a.pair.now.fine a.pair.now.coarse c.grid_of-gf.result c.grid_of-gc.result c.nodes-nn.result a.from a.to a.eps.now = chain c.args.pair.now.paired c.requires.chain_room c.grid_of-gf.ensures c.grid_of-gc.ensures c.nodes-nn.ensures in
    let q = levels in
    (fine_in q, coarse_in q)

pub all_eps-requires-clause-nested_in : goal.all_eps-requires-clause-nested_in
all_eps-requires-clause-nested_in c = let levels : let a = c.args in
    Chain (full a.pair.now.l) a.pair.now.fine a.pair.now.coarse c.grid_of-gf.result c.grid_of-gc.result c.nodes-nn.result a.from a.to a.eps.now = chain c.args.pair.now.paired c.requires.chain_room c.grid_of-gf.ensures c.grid_of-gc.ensures c.nodes-nn.ensures in
    let q = levels in
    nested_in q

pub all_eps-requires-clause-chain_room : goal.all_eps-requires-clause-chain_room
all_eps-requires-clause-chain_room c = let levels : let a = c.args in
    Chain (full a.pair.now.l) a.pair.now.fine a.pair.now.coarse c.grid_of-gf.result c.grid_of-gc.result c.nodes-nn.result a.from a.to a.eps.now = chain c.args.pair.now.paired c.requires.chain_room c.grid_of-gf.ensures c.grid_of-gc.ensures c.nodes-nn.ensures in
    let q = levels in
    chain_room q

pub unknowns-requires : goal.unknowns-requires
unknowns-requires c =
    let levels : let a = c.args in
    Chain (full a.pair.now.l) a.pair.now.fine a.pair.now.coarse c.grid_of-gf.result c.grid_of-gc.result c.nodes-nn.result a.from a.to a.eps.now = chain c.args.pair.now.paired c.requires.chain_room c.grid_of-gf.ensures c.grid_of-gc.ensures c.nodes-nn.ensures in
    coarse_in (levels)

pub finite_numbers-requires : goal.finite_numbers-requires
finite_numbers-requires c =
    let levels : let a = c.args in
    Chain (full a.pair.now.l) a.pair.now.fine a.pair.now.coarse c.grid_of-gf.result c.grid_of-gc.result c.nodes-nn.result a.from a.to a.eps.now = chain c.args.pair.now.paired c.requires.chain_room c.grid_of-gf.ensures c.grid_of-gc.ensures c.nodes-nn.ensures in
    eps_room (levels) c.all_eps.ensures c.unknowns.ensures

pub returns-clause-eps_after : goal.returns-clause-eps_after
returns-clause-eps_after c = let levels : let a = c.args in
    Chain (full a.pair.now.l) a.pair.now.fine a.pair.now.coarse c.grid_of-gf.result c.grid_of-gc.result c.nodes-nn.result a.from a.to a.eps.now = chain c.args.pair.now.paired c.requires.chain_room c.grid_of-gf.ensures c.grid_of-gc.ensures c.nodes-nn.ensures in
    let q = levels in
    let e = c.all_eps.ensures in
    eps_laid q e

pub returns-clause-value : goal.returns-clause-value
returns-clause-value c = let levels : let a = c.args in
    Chain (full a.pair.now.l) a.pair.now.fine a.pair.now.coarse c.grid_of-gf.result c.grid_of-gc.result c.nodes-nn.result a.from a.to a.eps.now = chain c.args.pair.now.paired c.requires.chain_room c.grid_of-gf.ensures c.grid_of-gc.ensures c.nodes-nn.ensures in
    let q = levels in
    let e = c.all_eps.ensures in
    eps_finite q e c.unknowns.ensures c.finite_numbers.ensures
