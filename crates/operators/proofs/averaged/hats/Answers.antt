-- `operators::averaged::hats` meets its contract.
-- Assumes nothing.
use Rattle.operators.proofs.HatLaws.{axis_long, hats_three}
use Rattle.operators.proofs.averaged.hats.Goals as goal

pub axis_hats-requires-2-clause-hats_len : goal.axis_hats-requires-2-clause-hats_len
axis_hats-requires-2-clause-hats_len c = axis_long c.axis_hats.ensures c.requires.hats_len

pub axis_hats-requires-3-clause-hats_len : goal.axis_hats-requires-3-clause-hats_len
axis_hats-requires-3-clause-hats_len c = axis_long c.axis_hats-2.ensures (axis_long c.axis_hats.ensures c.requires.hats_len)

pub returns : goal.returns
returns c =
    hats_three c.args.nested.now.lines c.requires.hats_len c.is_wall-wx.ensures c.is_wall-wy.ensures c.is_wall-wz.ensures c.axis_hats.ensures c.axis_hats-2.ensures c.axis_hats-3.ensures
