-- `renew::shape::first_marks` meets its contract.
-- Assumes nothing.
use Rattle.store.proofs.MarkLaws.{marks_first}
use Rattle.renew.proofs.shape.first_marks.Goals as goal

pub returns : goal.returns
returns c = λ ch h. marks_first _ ch _ h _ _ c.edges-n.ensures c.chain_length-all.ensures
