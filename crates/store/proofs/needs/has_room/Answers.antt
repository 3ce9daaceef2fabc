-- `store::needs::has_room` meets its contract.
-- Assumes nothing.
use Rattle.store.proofs.ShortLaws.{room_values, room_columns, room_starts}
use Rattle.store.proofs.needs.has_room.Goals as goal

pub returns-then-terms-hc : goal.returns-then-terms-hc
returns-then-terms-hc c = room_values _ _ _ _ c.args.hv c.if-starts-hs.true c.if-terms-hc.true

pub returns-else-terms-hc : goal.returns-else-terms-hc
returns-else-terms-hc c = room_columns _ _ _ _ c.args.hv c.if-starts-hs.true c.if-terms-hc.false

pub returns-else-starts-hs : goal.returns-else-starts-hs
returns-else-starts-hs c = room_starts _ c.args.terms _ c.args.hc c.args.hv c.if-starts-hs.false
