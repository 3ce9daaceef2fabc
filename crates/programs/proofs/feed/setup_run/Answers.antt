-- `programs::feed::setup_run` meets its contract.
-- Assumes nothing.
use native.Mathlib.Omega.{arith}
use Rattle.store.specs.Lists.{store_of}
use Rattle.programs.proofs.MachineLaws.{input_found, setup_refused, setup_ran}
use Rattle.programs.proofs.feed.setup_run.Goals as goal

pub returns-then-o-gt1-clause-left : goal.returns-then-o-gt1-clause-left
returns-then-o-gt1-clause-left c = let a = c.args in setup_refused a.r a.o a.held.now (store_of a.lists.now) (omega arith) c.out_of_turn.ensures

pub returns-clause-left : goal.returns-clause-left
returns-clause-left c =
    let a = c.args in
    setup_ran a.r a.o a.held.now (store_of a.lists.now) c.setup-a.result (omega arith) c.choice_read-chosen.ensures
    (input_found c.choice_read-chosen.result.seen c.stretches_of-on.result c.lattice_of.ensures c.stretches_of-on.ensures) c.given.ensures c.setup-a.ensures.left c.from.ensures c.answer.ensures c.answered.ensures
