use mathlib.Core.Path.{refl}
use Rattle.store.proofs.HandedLaws.{passed_start, passed_turn, passed_starts, passed_terms, passed_end}
use Rattle.store.proofs.handed.part_at.Goals as goal

pub loop-q-init : goal.loop-q-init
loop-q-init c = passed_start

pub returns-then-starts-at : goal.returns-then-starts-at
returns-then-starts-at c = passed_starts c.loop-q.invariant c.loop-q-test.true c.edges-n.ensures c.if-starts-at.true

pub returns-then-room-terms : goal.returns-then-room-terms
returns-then-room-terms c = passed_terms c.loop-q.invariant c.loop-q-test.true c.edges-n.ensures refl c.if-room-terms.true

pub loop-q-preserved : goal.loop-q-preserved
loop-q-preserved c = passed_turn c.loop-q.invariant c.loop-q-test.true c.edges-n.ensures refl c.if-starts-at.false c.if-room-terms.false

pub returns : goal.returns
returns c = passed_end c.loop-q.invariant c.loop-q-test.false
