-- `renew::shape::words_of` meets its contract.
-- Assumes nothing.
use Rattle.store.proofs.MarkLaws.{words_seven}
use Rattle.renew.proofs.shape.words_of.Goals as goal

pub returns : goal.returns
returns c =
    words_seven c.args.choice c.args.fine c.args.coarse c.args.k c.only-c.ensures c.only-f.ensures c.words-eps.ensures c.words-averaged.ensures c.words-forward.ensures c.words-turned.ensures c.words-volumes.ensures
    c.words-shares.ensures c.words-operator.ensures
