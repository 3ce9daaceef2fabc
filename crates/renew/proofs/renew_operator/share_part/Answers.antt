-- `renew::renew_operator::share_part` meets its contract.
-- Assumes nothing.
use Rattle.store.proofs.EndLaws.{edges_next}
use Rattle.store.proofs.PartRowLaws.{shares_there, share_places, shares_done}
use Rattle.renew.proofs.renew_operator.share_part.Goals as goal

pub share_rows-requires-clause-share_places : goal.share_rows-requires-clause-share_places
share_rows-requires-clause-share_places c = share_places _ c.args.level c.requires.o_value c.edges-n.ensures c.edges-c.ensures

pub share_rows-requires-clause-base_bound : goal.share_rows-requires-clause-base_bound
share_rows-requires-clause-base_bound c = shares_there _ c.args.h.now.m c.args.level c.args.base c.args.flags.now c.requires.part_flags (edges_next _ _ c.edges-c.ensures)

pub returns : goal.returns
returns c = shares_done _ c.args.level c.requires.o_value c.edges-n.ensures c.edges-c.ensures c.args.base c.args.flags.now c.requires.part_flags c.share_rows.ensures
