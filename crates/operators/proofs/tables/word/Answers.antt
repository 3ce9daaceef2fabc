-- `operators::tables::word` meets its contract.
-- Assumes nothing.
use Rattle.operators.specs.Numbered.{word_of}
use Rattle.operators.proofs.tables.word.Goals as goal

pub returns : goal.returns
unfolding word_of
returns c = rw c.no-w.ensures.0
