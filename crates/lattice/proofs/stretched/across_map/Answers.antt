use Prim.Native.Nat.{◌≤◌}
use native.Mathlib.Omega.{arith}
use Rattle.std.proofs.Common.{rules}
use Rattle.lattice.specs.Stretched.{across_map}
use Rattle.lattice.proofs.GridLaws.{n_most}
use Rattle.lattice.proofs.stretched.across_map.Goals as goal

pub map_by-requires-clause-n_bound : goal.map_by-requires-clause-n_bound
map_by-requires-clause-n_bound c = omega (arith, c.n.ensures, n_most c.args.l.now.limits c.args.axis)

pub map_by-requires-clause-callable : goal.map_by-requires-clause-callable
map_by-requires-clause-callable c =
    let e : c.n.result ≤ 64 = omega (arith, c.n.ensures, n_most c.args.l.now.limits c.args.axis) in
    search rules

pub returns : goal.returns
unfolding across_map
returns c = rw (← c.n.ensures) (c.map_by.ensures _ (search rules))
