use mathlib.Core.Path.{sym, ◌∙◌}
use Rattle.store.specs.Lists.{store_of}
use Rattle.store.proofs.SettleLaws.{settled_err, settled_ok}
use Rattle.store.proofs.setup.settle.Goals as goal

pub returns-then-is_ok-clause-left : goal.returns-then-is_ok-clause-left
returns-then-is_ok-clause-left c = settled_ok c.fill_levels-answer.result (store_of c.fill_levels-answer.new.lists) (sym c.is_ok.ensures.value ∙ c.if-is_ok.true) c.fill_levels-answer.ensures.left

pub returns-clause-left : goal.returns-clause-left
returns-clause-left c = settled_err c.fill_levels-answer.result (store_of c.fill_levels-answer.new.lists) (sym c.is_ok.ensures.value ∙ c.if-is_ok.false) c.fill_levels-answer.ensures.left c.clear.ensures.zeroed
