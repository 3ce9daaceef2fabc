-- `lattice::check::check_grid` meets its contract. The tests passed so far bound the products.
-- Assumes nothing.
use mathlib.Core.Bool.{false}
use mathlib.Core.Path.{◌≡◌, sym, ◌∙◌}
use Prim.Native.Nat.{◌*◌, ◌≤◌}
use native.Mathlib.Nat.{mul-le-mul}
use native.Mathlib.Omega.{arith}
use borrow.Author.Tests.{lt-ltb, le-ltb}
use Rattle.lattice.specs.Check.{bad_cells, check_grid}
use Rattle.lattice.proofs.CheckLaws.{cells_told}
use Rattle.lattice.proofs.check.check_grid.Goals as goal

pub returns-then-bad_cells : goal.returns-then-bad_cells
unfolding check_grid
returns-then-bad_cells c = rw (sym c.bad_cells.ensures ∙ c.if-bad_cells.true)

pub returns-then-bad_cells-2 : goal.returns-then-bad_cells-2
unfolding check_grid
returns-then-bad_cells-2 c =
    let good-x : bad_cells c.args.g.nx ≡ false = sym c.bad_cells.ensures ∙ c.if-bad_cells.false in
    rw (good-x, sym c.bad_cells-2.ensures ∙ c.if-bad_cells-2.true)

pub returns-then-bad_cells-3 : goal.returns-then-bad_cells-3
unfolding check_grid
returns-then-bad_cells-3 c =
    let good-x : bad_cells c.args.g.nx ≡ false = sym c.bad_cells.ensures ∙ c.if-bad_cells.false in
    let good-y : bad_cells c.args.g.ny ≡ false = sym c.bad_cells-2.ensures ∙ c.if-bad_cells-2.false in
    rw (good-x, good-y, sym c.bad_cells-3.ensures ∙ c.if-bad_cells-3.true)

pub overflow_mul-g : goal.overflow_mul-g
overflow_mul-g c =
    let good-x : bad_cells c.args.g.nx ≡ false = sym c.bad_cells.ensures ∙ c.if-bad_cells.false in
    let good-y : bad_cells c.args.g.ny ≡ false = sym c.bad_cells-2.ensures ∙ c.if-bad_cells-2.false in
    let plane : c.args.g.nx * c.args.g.ny ≤ 64 * 64 = mul-le-mul (cells_told _ (good-x)).1 (cells_told _ (good-y)).1 in
    omega (arith, plane)

pub overflow_mul-g-2 : goal.overflow_mul-g-2
overflow_mul-g-2 c =
    let good-x : bad_cells c.args.g.nx ≡ false = sym c.bad_cells.ensures ∙ c.if-bad_cells.false in
    let good-y : bad_cells c.args.g.ny ≡ false = sym c.bad_cells-2.ensures ∙ c.if-bad_cells-2.false in
    let good-z : bad_cells c.args.g.nz ≡ false = sym c.bad_cells-3.ensures ∙ c.if-bad_cells-3.false in
    let plane : c.args.g.nx * c.args.g.ny ≤ 64 * 64 = mul-le-mul (cells_told _ (good-x)).1 (cells_told _ (good-y)).1 in
    omega (arith, mul-le-mul (plane) (cells_told _ (good-z)).1)

pub returns-then-g-gt4096 : goal.returns-then-g-gt4096
unfolding check_grid
returns-then-g-gt4096 c =
    let good-x : bad_cells c.args.g.nx ≡ false = sym c.bad_cells.ensures ∙ c.if-bad_cells.false in
    let good-y : bad_cells c.args.g.ny ≡ false = sym c.bad_cells-2.ensures ∙ c.if-bad_cells-2.false in
    let good-z : bad_cells c.args.g.nz ≡ false = sym c.bad_cells-3.ensures ∙ c.if-bad_cells-3.false in
    rw (good-x, good-y, good-z, lt-ltb _ _ c.if-g-gt4096.true)

pub returns : goal.returns
unfolding check_grid
returns c =
    let good-x : bad_cells c.args.g.nx ≡ false = sym c.bad_cells.ensures ∙ c.if-bad_cells.false in
    let good-y : bad_cells c.args.g.ny ≡ false = sym c.bad_cells-2.ensures ∙ c.if-bad_cells-2.false in
    let good-z : bad_cells c.args.g.nz ≡ false = sym c.bad_cells-3.ensures ∙ c.if-bad_cells-3.false in
    rw (good-x, good-y, good-z, le-ltb _ _ c.if-g-gt4096.false)
