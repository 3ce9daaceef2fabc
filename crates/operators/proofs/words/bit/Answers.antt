-- `operators::words::bit` meets its contract.
-- Assumes nothing.
use mathlib.Core.Path.{refl}
use Rattle.operators.specs.Bits.{bit_at}
use Rattle.operators.proofs.words.bit.Goals as goal

pub returns : goal.returns
unfolding bit_at
returns c = refl
