use Rattle.store.proofs.TransferLaws.{given_ready, moving_start, moving_count, moving_turn, moving_end}
use Rattle.store.proofs.transfers.transfers.Goals as goal

pub lay_given-requires : goal.lay_given-requires
lay_given-requires c = given_ready _ c.args.h.now.l.limits _ c.args.given.now c.edges-n.ensures c.requires.st_in_bounds c.requires.transfer_room

pub loop-level-init : goal.loop-level-init
loop-level-init c = moving_start _ _ _ c.requires.transfer_room c.edges-n.ensures c.lay_given.ensures c.first_offsets-o.ensures

pub next_offsets-o-requires-clause-level_in_bounds : goal.next_offsets-o-requires-clause-level_in_bounds
next_offsets-o-requires-clause-level_in_bounds c = moving_count _ _ _ c.loop-level.invariant c.loop-level-test.true c.level_transfer-ok.ensures

pub loop-level-preserved : goal.loop-level-preserved
loop-level-preserved c = moving_turn _ _ _ c.loop-level.invariant c.loop-level-test.true c.level_transfer-ok.ensures c.next_offsets-o.ensures c.noted-bad.ensures

pub returns-clause-transfers_left : goal.returns-clause-transfers_left
returns-clause-transfers_left c = (moving_end _ _ _ c.loop-level.invariant c.loop-level-test.false c.edges-n.ensures c.lay_given.ensures).0

pub returns-clause-value : goal.returns-clause-value
returns-clause-value c = (moving_end _ _ _ c.loop-level.invariant c.loop-level-test.false c.edges-n.ensures c.lay_given.ensures).1
