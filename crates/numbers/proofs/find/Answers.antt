use mathlib.Core.Path.{◌∙◌}
use lib.Ieee.{div, of_bits}
use Rattle.numbers.proofs.Laws.{found_held, found_none}
use Rattle.numbers.proofs.find.Goals as goal

pub returns-then-k-xs : goal.returns-then-k-xs
returns-then-k-xs c = c.get.ensures ∙ found_held _ _ c.if-k-xs.true

pub returns : goal.returns
unfolding div of_bits
returns c = found_none _ _ c.if-k-xs.false
