use Rattle.store.specs.Lists.{store_of}
use Rattle.store.proofs.EndLaws.{few_cells}
use Rattle.store.proofs.ShortLaws.{transfer_room}
use Rattle.store.proofs.FillLaws.{ready_of, chosen_room_after, scaling_asked_of, codes_low, fill_is}
use Rattle.store.proofs.fill.fill.Goals as goal

pub lay_lines-requires-clause-few_cells : goal.lay_lines-requires-clause-few_cells
lay_lines-requires-clause-few_cells c = few_cells c.args.h.now.has_lines c.args.h.now.l.limits

pub transfers-a-requires-clause-transfer_room : goal.transfers-a-requires-clause-transfer_room
transfers-a-requires-clause-transfer_room c = transfer_room _ _ _ (store_of c.args.lists.now) c.requires.enough

pub operators-b-requires-clause-operators_ready : goal.operators-b-requires-clause-operators_ready
operators-b-requires-clause-operators_ready c = ready_of _ (store_of c.args.lists.now) c.args.h.now.l.limits c.args.h.now.few c.requires.enough c.transfers-a.ensures.transfers_left

pub operators-b-requires-clause-chosen_room : goal.operators-b-requires-clause-chosen_room
operators-b-requires-clause-chosen_room c = chosen_room_after _ (store_of c.args.lists.now) c.args.h.now.l.limits c.args.h.now.few c.requires.enough c.transfers-a.ensures.transfers_left

pub scalings-c-requires : goal.scalings-c-requires
scalings-c-requires c = record { scaling_asked = scaling_asked_of _ (store_of c.args.lists.now) c.args.h.now.l.limits c.args.h.now.few c.requires.enough c.transfers-a.ensures.transfers_left }

pub first_bad-requires : goal.first_bad-requires
first_bad-requires c = codes_low _ (store_of c.args.lists.now) c.args.h.now.l.limits c.args.h.now.few c.requires.enough c.transfers-a.ensures.transfers_left c.transfers-a.ensures.value c.operators-b.ensures c.scalings-c.ensures

pub returns-clause-filled : goal.returns-clause-filled
returns-clause-filled c = fill_is _ (store_of c.args.lists.now) c.args.h.now.l.limits c.args.h.now.few c.requires.enough c.transfers-a.ensures.transfers_left c.transfers-a.ensures.value c.operators-b.ensures c.scalings-c.ensures (c.lay_lines.ensures.ends_are _ c.args.h.now.l.limits c.args.h.now.has_lines) c.first_bad.ensures
