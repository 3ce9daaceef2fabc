-- `store::needed::cells_of` meets its contract.
-- Assumes nothing.
use Rattle.std.proofs.Common.{rules}
use Rattle.numbers.proofs.TabulateLaws.{is_tabulate}
use Rattle.store.specs.Needed.{line_cells}
use Rattle.store.specs.Phases.{blank_line}
use Rattle.store.proofs.needed.cells_of.Goals as goal

pub returns : goal.returns
returns c = is_tabulate (line_cells c.args.lines.now) 36 0 c.map.result c.map.ensures.items.long (λ i b. let w = c.map.ensures.items.at i blank_line 0 b in search rules)
