-- `renew::renew_operator::share_row` meets its contract.
-- Assumes nothing.
use native.Mathlib.Omega.{arith}
use Rattle.store.proofs.ShareLaws.{place_low, share_asked, share_made}
use Rattle.renew.proofs.renew_operator.share_row.Goals as goal

pub overflow_add-k : goal.overflow_add-k
overflow_add-k c = omega (arith, place_low c.args.h.now.l.limits (c.requires.level_lt_m, c.args.h.now.few) c.requires.turned_rows c.requires.share_places)

pub inverse_share-requires-clause-stored : goal.inverse_share-requires-clause-stored
inverse_share-requires-clause-stored c = let q = share_asked c.args.h.now.l.limits (c.requires.level_lt_m, c.args.h.now.few) c.requires.turned_rows c.requires.share_places c.args.scaling.now c.requires.m_in_bounds c.args.i c.requires.i_lt_c in q.0

pub inverse_share-requires-clause-c_lt_m : goal.inverse_share-requires-clause-c_lt_m
inverse_share-requires-clause-c_lt_m c = let q = share_asked c.args.h.now.l.limits (c.requires.level_lt_m, c.args.h.now.few) c.requires.turned_rows c.requires.share_places c.args.scaling.now c.requires.m_in_bounds c.args.i c.requires.i_lt_c in q.1

pub returns : goal.returns
returns c = share_made c.args.h.now.l.limits (c.requires.level_lt_m, c.args.h.now.few) c.requires.turned_rows c.requires.share_places c.args.i c.requires.m_in_bounds c.requires.i_lt_c (c.inverse_share.ensures.scaling_after, c.inverse_share.ensures.value)
