-- `operators::averaged::averaged_eps` meets its contract.
-- Assumes nothing.
use Rattle.weights.proofs.EpsLaws.{chain, fine_in, coarse_in, chain_room}
use Rattle.operators.proofs.AverageLaws.{averages_ready, averages_laid, averages_room, averages_finite}
use Rattle.operators.proofs.averaged.averaged_eps.Goals as goal

pub all_averaged-requires-clause-limits : goal.all_averaged-requires-clause-limits
all_averaged-requires-clause-limits c =
    let q = chain c.args.nested.now.lines.paired c.requires.chain_room c.grid_of-gf.ensures c.grid_of-gc.ensures c.nodes-nn.ensures in
    (fine_in q, coarse_in q)

pub all_averaged-requires-clause-averages_ready : goal.all_averaged-requires-clause-averages_ready
all_averaged-requires-clause-averages_ready c =
    averages_ready (chain c.args.nested.now.lines.paired c.requires.chain_room c.grid_of-gf.ensures c.grid_of-gc.ensures c.nodes-nn.ensures) c.hats.ensures

pub all_averaged-requires-clause-chain_room : goal.all_averaged-requires-clause-chain_room
all_averaged-requires-clause-chain_room c =
    chain_room (chain c.args.nested.now.lines.paired c.requires.chain_room c.grid_of-gf.ensures c.grid_of-gc.ensures c.nodes-nn.ensures)

pub unknowns-requires : goal.unknowns-requires
unknowns-requires c = coarse_in (chain c.args.nested.now.lines.paired c.requires.chain_room c.grid_of-gf.ensures c.grid_of-gc.ensures c.nodes-nn.ensures)

pub finite_numbers-requires : goal.finite_numbers-requires
finite_numbers-requires c =
    averages_room (chain c.args.nested.now.lines.paired c.requires.chain_room c.grid_of-gf.ensures c.grid_of-gc.ensures c.nodes-nn.ensures)
    c.hats.ensures c.all_averaged.ensures c.unknowns.ensures

pub returns-clause-eps_after : goal.returns-clause-eps_after
returns-clause-eps_after c =
    averages_laid (chain c.args.nested.now.lines.paired c.requires.chain_room c.grid_of-gf.ensures c.grid_of-gc.ensures c.nodes-nn.ensures)
    c.hats.ensures c.all_averaged.ensures

pub returns-clause-value : goal.returns-clause-value
returns-clause-value c =
    averages_finite (chain c.args.nested.now.lines.paired c.requires.chain_room c.grid_of-gf.ensures c.grid_of-gc.ensures c.nodes-nn.ensures)
    c.hats.ensures c.all_averaged.ensures c.unknowns.ensures c.finite_numbers.ensures
