-- `lattice::levels::edges` meets its contract: held lines have few enough cells for the product.
-- Assumes nothing.
use Prim.Native.Nat.{◌*◌, ◌≤◌}
use mathlib.Core.Path.{refl}
use native.Mathlib.Omega.{arith}
use native.Mathlib.Nat.{mul-le-mul}
use Rattle.lattice.specs.Levels.{three_edges}
use Rattle.lattice.proofs.levels.edges.Goals as goal

pub overflow_mul-result : goal.overflow_mul-result
overflow_mul-result c = omega (arith, mul-le-mul c.requires.0.most c.requires.1.most)

pub overflow_mul-result-2 : goal.overflow_mul-result-2
overflow_mul-result-2 c =
    let cells_most : c.args.t.x.cells * c.args.t.y.cells * c.args.t.z.cells ≤ 64 * 64 * 64 = mul-le-mul (mul-le-mul c.requires.0.most c.requires.1.most) c.requires.2.most in
    omega (arith, cells_most)

pub overflow_mul-result-3 : goal.overflow_mul-result-3
overflow_mul-result-3 c =
    let cells_most : c.args.t.x.cells * c.args.t.y.cells * c.args.t.z.cells ≤ 64 * 64 * 64 = mul-le-mul (mul-le-mul c.requires.0.most c.requires.1.most) c.requires.2.most in
    omega (arith, cells_most)

pub returns : goal.returns
unfolding three_edges
returns c = refl
