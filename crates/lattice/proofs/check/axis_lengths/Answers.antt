-- `lattice::check::axis_lengths` meets its contract, list by list.
-- Assumes nothing.
use mathlib.Core.Path.{sym, ◌∙◌}
use Rattle.lattice.proofs.CheckLaws.{length_bad, length_good, lengths_none}
use Rattle.lattice.proofs.check.axis_lengths.Goals as goal

pub returns-then-nodes-n : goal.returns-then-nodes-n
returns-then-nodes-n c = sym (length_bad _ _ _ _ c.if-nodes-n.true)

pub returns-then-halves-n : goal.returns-then-halves-n
returns-then-halves-n c = sym (length_good _ _ _ _ c.if-nodes-n.false ∙ length_bad _ _ _ _ c.if-halves-n.true)

pub returns : goal.returns
returns c = sym (length_good _ _ _ _ c.if-nodes-n.false ∙ (length_good _ _ _ _ c.if-halves-n.false ∙ lengths_none _))
