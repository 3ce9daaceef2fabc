use native.Mathlib.Omega.{arith}
use Rattle.weights.proofs.TableLaws.{block_room, block_is}
use Rattle.weights.proofs.tables.block.Goals as goal

pub overflow_add-result : goal.overflow_add-result
overflow_add-result c = let r = block_room c.args.q c.args.t.now.coarse_values c.args.t.now.limits c.args.t.now.values_of.coarse_long c.requires c.n.ensures in omega (arith, r.1)

pub slice_bounds-result-end : goal.slice_bounds-result-end
slice_bounds-result-end c = omega (arith, (block_room c.args.q c.args.t.now.coarse_values c.args.t.now.limits c.args.t.now.values_of.coarse_long c.requires c.n.ensures).0, c.args.t.now.values_of.coarse_long)

pub returns : goal.returns
returns c = block_is c.args.q c.args.t.now.coarse_values c.args.t.now.limits c.args.t.now.values_of.coarse_long c.requires c.n.ensures
