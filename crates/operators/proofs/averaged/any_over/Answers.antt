use mathlib.Core.Path.{refl, sym, ◌∙◌}
use Rattle.operators.proofs.AveragedRow.{seek_turn, seek_found, seek_end}
use Rattle.operators.proofs.averaged.any_over.Goals as goal

pub line_flagged-requires-clause-node_bound : goal.line_flagged-requires-clause-node_bound
line_flagged-requires-clause-node_bound c = (c.requires.next_below.below _ c.loop-h-test.true, c.requires.last_below.below _ c.loop-k-test.true)

pub loop-k-preserved : goal.loop-k-preserved
loop-k-preserved c = seek_turn _ _ _ _ c.loop-k.invariant c.loop-k-test.true c.line_flagged.ensures c.if-line_flagged.false

pub loop-h-preserved : goal.loop-h-preserved
loop-h-preserved c = seek_turn _ _ _ _ c.loop-h.invariant c.loop-h-test.true (seek_end _ _ _ _ c.loop-k.invariant c.loop-k-test.false) refl

pub returns-then-line_flagged : goal.returns-then-line_flagged
returns-then-line_flagged c =
    sym c.if-line_flagged.true
    ∙ seek_found _ _ _ _ c.loop-h.invariant c.loop-h-test.true (seek_found _ _ _ _ c.loop-k.invariant c.loop-k-test.true c.line_flagged.ensures c.if-line_flagged.true) c.if-line_flagged.true

pub returns : goal.returns
returns c = seek_end _ _ _ _ c.loop-h.invariant c.loop-h-test.false
