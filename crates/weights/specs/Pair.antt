-- Two levels that follow one another, as they go through the code.
-- Assumes nothing.
use Rattle.lattice.specs.Sound.{full}
use Rattle.weights.specs.TwoLevels.{TwoLevels, two_of}
use Rattle.weights.specs.declared.pair.Pair.{Pair}

abbrev pub two : Pair → TwoLevels
two p = two_of (full p.l) p.fine p.coarse
