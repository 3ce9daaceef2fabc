-- `store::lines::edges` meets its contract. The cells of the lines are those of the grid.
-- Assumes nothing.
use mathlib.Core.Path.{ap, ◌∙◌}
use Rattle.lattice.specs.Grid.{unknowns_of}
use Rattle.store.proofs.lines.edges.Goals as goal

pub returns : goal.returns
returns c = c.unknowns.ensures ∙ ap unknowns_of c.grid_of.ensures
