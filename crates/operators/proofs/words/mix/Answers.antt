-- `operators::words::mix` meets its contract.
-- Assumes nothing.
use Rattle.operators.specs.Bits.{mix_of}
use Rattle.operators.proofs.WordLaws.{mix_left, mix_right}
use Rattle.operators.proofs.words.mix.Goals as goal

pub returns-then-b : goal.returns-then-b
unfolding mix_of
returns-then-b c = rw (c.if-a.true, c.if-b.true)

pub returns-then-a : goal.returns-then-a
returns-then-a c = rw (c.if-a.true, c.if-b.false) (mix_left _ _)

pub returns-then-b-2 : goal.returns-then-b-2
returns-then-b-2 c = rw (c.if-a.false, c.if-b-2.true) (mix_right _ _)

pub returns : goal.returns
unfolding mix_of
returns c = rw (c.if-a.false, c.if-b-2.false)
