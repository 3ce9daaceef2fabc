-- `store::scaling::level_scaling` meets its contract. The volumes stand when the shares are worked out from them.
-- Assumes nothing.
use native.Mathlib.Omega.{arith}
use Rattle.operators.proofs.RediscretizedLists.{both_finite, one_not}
use Rattle.store.proofs.ScalingLaws.{place_asked, sum_low, shares_asked, scale_done}
use Rattle.store.proofs.scaling.level_scaling.Goals as goal

pub level_volumes-known-requires-clause-k_bound : goal.level_volumes-known-requires-clause-k_bound
level_volumes-known-requires-clause-k_bound c = place_asked _ c.args.h.now.l.limits _ _ (c.requires.level_lt_m, c.args.h.now.few) c.requires.turned_stored c.requires.t_value c.edges-n.ensures c.edges-c.ensures c.requires.scaling_room

pub overflow_add-k : goal.overflow_add-k
overflow_add-k c = omega (arith, sum_low _ c.args.h.now.l.limits _ _ (c.requires.level_lt_m, c.args.h.now.few) c.requires.turned_stored c.requires.t_value c.edges-n.ensures c.edges-c.ensures c.requires.scaling_room)

pub inverse_shares-shared-requires-clause-stored : goal.inverse_shares-shared-requires-clause-stored
inverse_shares-shared-requires-clause-stored c = let q = shares_asked _ c.args.h.now.l.limits _ _ (c.requires.level_lt_m, c.args.h.now.few) c.requires.turned_stored c.requires.t_value c.edges-n.ensures c.edges-c.ensures c.requires.scaling_room c.level_volumes-known.ensures in q.0

pub inverse_shares-shared-requires-clause-k_bound : goal.inverse_shares-shared-requires-clause-k_bound
inverse_shares-shared-requires-clause-k_bound c = let q = shares_asked _ c.args.h.now.l.limits _ _ (c.requires.level_lt_m, c.args.h.now.few) c.requires.turned_stored c.requires.t_value c.edges-n.ensures c.edges-c.ensures c.requires.scaling_room c.level_volumes-known.ensures in q.1

pub returns-then-known : goal.returns-then-known
returns-then-known c = scale_done _ c.args.h.now.l.limits _ _ (c.requires.level_lt_m, c.args.h.now.few) c.requires.turned_stored c.requires.t_value c.edges-n.ensures c.edges-c.ensures c.requires.scaling_room c.level_volumes-known.ensures (c.inverse_shares-shared.ensures.scaling_after, c.inverse_shares-shared.ensures.value) (λ x y p q. both_finite p q c.if-known.true)

pub returns-else-known : goal.returns-else-known
returns-else-known c = scale_done _ c.args.h.now.l.limits _ _ (c.requires.level_lt_m, c.args.h.now.few) c.requires.turned_stored c.requires.t_value c.edges-n.ensures c.edges-c.ensures c.requires.scaling_room c.level_volumes-known.ensures (c.inverse_shares-shared.ensures.scaling_after, c.inverse_shares-shared.ensures.value) (λ x y p q. one_not p q c.if-known.false)
