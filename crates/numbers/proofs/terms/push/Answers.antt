use mathlib.Core.Path.{refl}
use Rattle.numbers.proofs.TermLaws.{wrote_one}
use Rattle.numbers.proofs.terms.push.Goals as goal

pub returns : goal.returns
returns c = wrote_one c.put.ensures c.put-2.ensures refl
