-- `store::transfers::level_transfer` meets its contract.
-- Assumes nothing.
use Rattle.store.proofs.TransferLaws.{whole_room, transfer_done}
use Rattle.store.proofs.transfers.level_transfer.Goals as goal

pub transfer-requires : goal.transfer-requires
transfer-requires c =
    record { whole_room = whole_room _ c.args.h.now.l.limits _ (c.requires.level_lt_m, c.args.h.now.few) c.requires.o_value c.pair-pair.ensures c.requires.transfer_room }

pub returns : goal.returns
returns c =
    transfer_done _ c.args.h.now.l.limits _ (c.requires.level_lt_m, c.args.h.now.few) c.requires.o_value c.pair-pair.ensures (c.transfer.ensures.whole_left, c.transfer.ensures.value)
