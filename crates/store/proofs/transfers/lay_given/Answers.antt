use Rattle.operators.proofs.VolumeLaws.{placing_start, placing_end}
use Rattle.store.proofs.TransferLaws.{placing_front}
use Rattle.store.proofs.transfers.lay_given.Goals as goal

pub loop-k-init : goal.loop-k-init
loop-k-init c = placing_start

pub loop-k-preserved : goal.loop-k-preserved
loop-k-preserved c = placing_front c.loop-k.invariant c.loop-k-test.true c.get.ensures c.put.ensures

pub returns : goal.returns
returns c = placing_end c.loop-k.invariant c.loop-k-test.false
