use Rattle.std.proofs.Common.{rules}
use Rattle.lattice.specs.Lattice.{full_lattice}
use Rattle.weights.specs.Tables.{count_from}
use Rattle.weights.proofs.TableLaws.{made_tabulate}
use Rattle.weights.proofs.tables.counts.Goals as goal

pub returns : goal.returns
returns c =
    let a = c.args in
    made_tabulate (count_from (full_lattice a.l a.st.now) a.t.now.fine a.t.now.coarse a.t.now.fine_values a.t.now.coarse_values) 384 0 c.from_fn.result c.from_fn.ensures.items (λ i y q b k. search rules)
