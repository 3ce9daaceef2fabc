-- `renew::shape::set_part` meets its contract.
-- Assumes nothing.
use Rattle.store.proofs.MarkLaws.{part_set}
use Rattle.renew.proofs.shape.set_part.Goals as goal

pub returns : goal.returns
returns c = part_set c.args.shape.now c.args.p c.args.base c.args.w c.requires
