-- `yonaduvi::answers::put_two` meets its contract.
-- Assumes nothing.
use Rattle.numbers.proofs.ListLaws.{laid_append}
use Rattle.yonaduvi.proofs.answers.put_two.Goals as goal

pub returns : goal.returns
returns c = (laid_append c.push-k.ensures c.push.ensures).list
