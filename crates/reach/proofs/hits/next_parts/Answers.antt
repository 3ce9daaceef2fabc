-- `reach::hits::next_parts` meets its contract.
-- Assumes nothing.
use native.Mathlib.Omega.{arith}
use Rattle.store.proofs.HitLaws.{forward_asked, turned_asked, operator_asked, parts_next}
use Rattle.reach.proofs.hits.next_parts.Goals as goal

pub edges-n-requires : goal.edges-n-requires
edges-n-requires c = omega (arith, c.requires.level_lt_m)

pub edges-k-requires : goal.edges-k-requires
edges-k-requires c = omega (arith, c.requires.level_lt_m)

pub behind-forward-requires : goal.behind-forward-requires
behind-forward-requires c = forward_asked _ c.args.h.now.l.limits _ _ c.args.h.now.few _ c.requires.level_lt_m c.requires.a_value c.requires.level_ends c.edges-n.ensures

pub behind-turned-requires : goal.behind-turned-requires
behind-turned-requires c = turned_asked _ c.args.h.now.l.limits _ _ c.args.h.now.few _ c.requires.level_lt_m c.requires.a_value c.requires.level_ends c.edges-k.ensures

pub next_operator-operator-requires : goal.next_operator-operator-requires
next_operator-operator-requires c = operator_asked _ c.args.h.now.l.limits _ _ c.args.h.now.few _ c.requires.level_lt_m c.requires.a_value c.requires.level_ends c.edges-n.ensures

pub returns : goal.returns
returns c = parts_next _ c.args.h.now.l.limits _ _ c.args.h.now.few _ c.requires.level_lt_m c.requires.a_value c.requires.level_ends c.edges-n.ensures c.edges-k.ensures c.behind-forward.ensures c.behind-turned.ensures c.next_operator-operator.ensures
