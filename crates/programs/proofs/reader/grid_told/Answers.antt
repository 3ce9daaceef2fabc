-- `programs::reader::grid_told` meets its contract.
-- Assumes nothing.
use mathlib.Core.Path.{ap, ◌∙◌}
use Rattle.programs.proofs.ReadingLaws.{grid_unsound, grid_cells, grid_room, grid_taken}
use Rattle.programs.specs.Reading.{told}
use Rattle.lattice.specs.Check.{check_grid}
use Rattle.programs.proofs.reader.grid_told.Goals as goal

pub returns-in-Err : goal.returns-in-Err
returns-in-Err c = c.from.ensures ∙ grid_unsound c.args.limit c.args.room c.args.b c.in-Err.c (c.in-Err.ensures ∙ ap check_grid c.grid_of-g.ensures.0)

pub returns-then-limit-cells : goal.returns-then-limit-cells
returns-then-limit-cells c = c.new.ensures ∙ (ap (told 13) c.cell_count-cells.ensures.0 ∙ grid_cells c.args.limit c.args.room c.args.b (c.in_default.ensures ∙ ap check_grid c.grid_of-g.ensures.0) (rw c.cell_count-cells.ensures.0 at c.if-limit-cells.true))

pub returns-then-room-stretch_count : goal.returns-then-room-stretch_count
returns-then-room-stretch_count c = c.new-then-room-stretch_count.ensures ∙ (ap (told 13) c.cell_count-cells.ensures.0 ∙ grid_room c.args.limit c.args.room c.args.b (c.in_default.ensures ∙ ap check_grid c.grid_of-g.ensures.0) (rw c.cell_count-cells.ensures.0 at c.if-limit-cells.false) (rw (c.stretch_count.ensures.0, c.edge_count.ensures.0) at c.if-room-stretch_count.true))

pub returns : goal.returns
returns c = c.new-2.ensures ∙ grid_taken c.args.limit c.args.room c.args.b (c.in_default.ensures ∙ ap check_grid c.grid_of-g.ensures.0) (rw c.cell_count-cells.ensures.0 at c.if-limit-cells.false) (rw (c.stretch_count.ensures.0, c.edge_count.ensures.0) at c.if-room-stretch_count.false)
