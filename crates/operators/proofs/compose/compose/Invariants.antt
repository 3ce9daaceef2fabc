-- `operators::compose::compose` meets its contract. The invariant: the first c words are filled.
-- Assumes nothing.
use Prim.Native.Nat.{◌≤◌}
use lib.ListN.{length}
use Rattle.numbers.specs.Lists.{entry_at}
use Rattle.operators.specs.Compose.{composed_word}
use Rattle.operators.proofs.TableLaws.{Filling}
use Rattle.operators.proofs.compose.compose.Given as goal

abbrev pub invariant-loop-c : goal.invariant-loop-c
invariant-loop-c l = (l.c ≤ l.m) × Filling (composed_word (length l.f) (entry_at l.f) (entry_at l.r) (entry_at l.g)) l.m l.initial.out l.at l.c l.out
