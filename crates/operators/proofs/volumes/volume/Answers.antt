-- `operators::volumes::volume` meets its contract.
-- Assumes nothing.
use Rattle.lattice.proofs.RowLaws.{at_in}
use Rattle.operators.proofs.VolumeLaws.{volume_is}
use Rattle.operators.proofs.volumes.volume.Goals as goal

pub side-requires-clause-inside : goal.side-requires-clause-inside
side-requires-clause-inside c = at_in c.args.l.now.limits c.requires c.at-p.ensures

pub side-requires-2-clause-inside : goal.side-requires-2-clause-inside
side-requires-2-clause-inside c = at_in c.args.l.now.limits c.requires c.at-p.ensures

pub side-requires-3-clause-inside : goal.side-requires-3-clause-inside
side-requires-3-clause-inside c = at_in c.args.l.now.limits c.requires c.at-p.ensures

pub returns : goal.returns
returns c =
    volume_is _ _ c.at-p.ensures c.one.ensures c.side.ensures c.mul-x.ensures c.side-2.ensures c.mul-y.ensures c.side-3.ensures
    c.mul.ensures
