use mathlib.Core.Path.{refl}
use Rattle.numbers.specs.Places.{number_at}
use Rattle.numbers.proofs.get.Goals as goal

pub returns : goal.returns
unfolding number_at
returns c = refl
