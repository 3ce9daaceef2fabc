-- `operators::tables::picks` meets its contract.
-- Assumes nothing.
use Rattle.operators.specs.Numbered.{picks_of}
use Rattle.operators.proofs.tables.picks.Goals as goal

pub returns : goal.returns
unfolding picks_of
returns c =
    λ i.
    record {
      sx = c.word.ensures i;
      tx = c.word-2.ensures i;
      sy = c.word-3.ensures i;
      ty = c.word-4.ensures i;
      sz = c.word-5.ensures i;
      tz = c.word-6.ensures i;
    }
