-- `renew::shape::next_marks` meets its contract.
-- Assumes nothing.
use Rattle.store.proofs.MarkLaws.{marks_made}
use Rattle.renew.proofs.shape.next_marks.Goals as goal

pub returns : goal.returns
returns c = marks_made c.args.k c.args.fine c.args.coarse c.args.s.now.starts.now c.args.s.now.tstarts.now c.args.s.now.ostarts.now _ _ _ c.behind-forward.ensures c.behind-turned.ensures c.behind-operator.ensures
