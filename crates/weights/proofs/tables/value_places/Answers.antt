use Rattle.std.proofs.Common.{rules}
use Rattle.weights.specs.Tables.{value_entry, lines_in}
use Rattle.weights.proofs.TableLaws.{made_tabulate}
use Rattle.weights.proofs.tables.value_places.Goals as goal

pub returns : goal.returns
returns c = made_tabulate (value_entry (lines_in c.args.s.now)) 384 0 c.from_fn.result c.from_fn.ensures.items (λ i y q b k. search rules)
