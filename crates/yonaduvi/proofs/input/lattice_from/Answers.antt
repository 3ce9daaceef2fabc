-- `yonaduvi::input::lattice_from` meets its contract.
-- Assumes nothing.
use borrow.Author.Tests.{lt-ltb, le-ltb}
use Rattle.yonaduvi.specs.Exports.{lattice_from}
use Rattle.yonaduvi.proofs.input.lattice_from.Goals as goal

pub returns-then-cells-lt3 : goal.returns-then-cells-lt3
unfolding lattice_from
returns-then-cells-lt3 c = rw (lt-ltb _ _ c.if-cells-lt3.true) c.no_lattice.ensures

pub returns-then-scalars-lt14 : goal.returns-then-scalars-lt14
unfolding lattice_from
returns-then-scalars-lt14 c = rw (le-ltb _ _ c.if-cells-lt3.false, lt-ltb _ _ c.if-scalars-lt14.true) c.no_lattice-then-scalars-lt14.ensures

pub returns : goal.returns
unfolding lattice_from
returns c = rw (le-ltb _ _ c.if-cells-lt3.false, le-ltb _ _ c.if-scalars-lt14.false, c.edges.ensures, c.edges-2.ensures, c.edges-3.ensures)
