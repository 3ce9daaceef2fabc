use Rattle.std.proofs.Common.{◌≡◌, ℕ, ◌<◌, List, rules}
use Rattle.numbers.specs.Lists.{any_flag}
use Rattle.store.specs.Work.{RowsAt}
use Rattle.store.specs.ReachSteps.{RowsThere}
use Rattle.reach.proofs.flags.stored_flags.Goals as goal

pub raise_each-requires-clause-calls : goal.raise_each-requires-clause-calls
raise_each-requires-clause-calls c = λ r h.
    let w : (RowsThere c.args.n c.args.o c.args.starts.now c.args.columns.now) × (r < c.args.n) = (c.requires.rows_there, h) in
    λ κs a b. search w

pub returns : goal.returns
returns c = record {
  raised = λ cols w. c.raise_each.ensures c.args.flags.now cols (λ r b h p.
      let y : (ds : ℕ → List ℕ) → RowsAt ds c.args.n c.args.o c.args.starts.now c.args.columns.now → b ≡ any_flag c.args.flags.now (ds r) = search rules in
      y cols w);
}
