use mathlib.Core.Path.{refl}
use Rattle.numbers.proofs.ListLaws.{laid_one}
use Rattle.numbers.proofs.lists.push.Goals as goal

pub returns : goal.returns
returns g c = laid_one c.put.ensures refl
