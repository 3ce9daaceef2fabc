-- `yonaduvi::answers::put` meets its contract. The invariant: the first c values have been laid over the list.
-- Assumes nothing.
use mathlib.Core.Path.{◌≡◌}
use lib.ListN.{length, set}
use Rattle.numbers.proofs.CopyLaws.{Copying}
use Rattle.yonaduvi.proofs.answers.put.Given as goal

abbrev pub invariant-loop-c : goal.invariant-loop-c
invariant-loop-c l = (l.n ≡ length l.values) × Copying set l.values l.n 0 l.initial.list l.list l.c l.c
