use Rattle.std.proofs.Common.{rules}
use Rattle.weights.specs.Tables.{node_from}
use Rattle.weights.proofs.TableLaws.{made_tabulate}
use Rattle.weights.proofs.tables.reads.Goals as goal

pub returns : goal.returns
returns c = made_tabulate (node_from c.args.nn.now c.args.ps.now) 768 0 c.from_fn.result c.from_fn.ensures.items (λ i y q b k. search rules)
