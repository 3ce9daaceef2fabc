-- `changes::compare::sole_operator` meets its contract. Level 0 is stored where it is the only one.
-- Assumes nothing.
use Rattle.std.proofs.Common.{◌≡◌, suc, subst}
use Rattle.store.specs.Compare.{Lowest}
use Rattle.store.proofs.CompareLaws.{sole_most, sole_room, sole_good, sole_bad}
use native.Mathlib.Omega.{arith}
use Rattle.store.proofs.NeedLaws.{relations_long}
use Rattle.changes.proofs.compare.sole_operator.Goals as goal

pub same_operator-requires-clause-u_len : goal.same_operator-requires-clause-u_len
same_operator-requires-clause-u_len c = relations_long _ c.base_relations-u.ensures

pub same_operator-requires-clause-by_index : goal.same_operator-requires-clause-by_index
same_operator-requires-clause-by_index c = sole_most _ c.args.h.now.l.limits _ c.requires.m_value c.args.starts.now c.args.columns.now c.requires.m_in_bounds.0 c.requires.m_in_bounds.1 c.base_relations-u.ensures

pub same_operator-requires-clause-part_room : goal.same_operator-requires-clause-part_room
same_operator-requires-clause-part_room c = sole_room _ c.args.h.now.l.limits _ c.requires.m_value c.args.starts.now c.args.columns.now c.requires.m_in_bounds.0 c.requires.m_in_bounds.1 c.base_relations-u.ensures

pub returns-then-same_operator : goal.returns-then-same_operator
returns-then-same_operator c = let z : 1 ≡ suc c.args.h.now.m = omega (arith, c.requires.m_value) in subst (Lowest _ _) z (sole_good _ c.args.h.now.l.limits _ c.requires.m_value c.args.starts.now c.args.columns.now c.requires.m_in_bounds.0 c.requires.m_in_bounds.1 c.base_relations-u.ensures c.same_operator.ensures c.if-same_operator.true)

pub returns : goal.returns
returns c = (omega arith, sole_bad _ c.args.h.now.l.limits _ c.requires.m_value c.args.starts.now c.args.columns.now c.requires.m_in_bounds.0 c.requires.m_in_bounds.1 c.base_relations-u.ensures c.same_operator.ensures c.if-same_operator.false)
