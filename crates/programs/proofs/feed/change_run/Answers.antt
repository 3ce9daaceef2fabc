-- `programs::feed::change_run` meets its contract.
-- Assumes nothing.
use native.Mathlib.Omega.{arith}
use Rattle.store.specs.Lists.{store_of}
use Rattle.programs.proofs.MachineLaws.{input_found, change_ran}
use Rattle.programs.proofs.feed.change_run.Goals as goal

pub returns-clause-left : goal.returns-clause-left
returns-clause-left c =
    let a = c.args in
    change_ran a.r a.b a.held.now (store_of a.lists.now) c.change_in-a.result
    (input_found a.r.seen c.stretches_of-on.result c.lattice_of-v.ensures c.stretches_of-on.ensures) c.word32-edge.ensures.0 c.pair_at-value.ensures c.change_in-a.ensures.changed (grind arith) c.answer.ensures c.answered.ensures
