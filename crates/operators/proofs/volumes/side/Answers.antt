-- `operators::volumes::side` meets its contract.
-- Assumes nothing.
use Rattle.operators.proofs.VolumeLaws.{place_few, side_along, side_across}
use Rattle.operators.proofs.volumes.side.Goals as goal

pub half-requires-clause-m_bound : goal.half-requires-clause-m_bound
half-requires-clause-m_bound c = place_few c.args.l.now.limits c.requires.inside _ c.place_on-m.ensures

pub returns-then-axis-p : goal.returns-then-axis-p
returns-then-axis-p c = side_along _ _ _ c.if-axis-p.true c.place_on-m.ensures c.step-step.ensures c.half.ensures c.mul.ensures

pub node-requires-clause-m_bound : goal.node-requires-clause-m_bound
node-requires-clause-m_bound c = place_few c.args.l.now.limits c.requires.inside _ c.place_on-m.ensures

pub returns : goal.returns
returns c = side_across _ _ _ c.if-axis-p.false c.place_on-m.ensures c.step-step.ensures c.node.ensures c.mul-2.ensures
