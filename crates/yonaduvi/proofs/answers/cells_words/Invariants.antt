-- `yonaduvi::answers::cells_words` meets its contract. The invariant: the level count and the first q cells stand in their places.
-- Assumes nothing.
use Prim.Native.Nat.{◌+◌, ◌≤◌}
use mathlib.Core.Path.{◌≡◌}
use lib.ListN.{length}
use Rattle.numbers.proofs.TabulateLaws.{Filled}
use Rattle.yonaduvi.proofs.RowLaws.{word_at}
use Rattle.yonaduvi.proofs.answers.cells_words.Given as goal

abbrev pub invariant-loop-q : goal.invariant-loop-q
invariant-loop-q l = (l.q ≤ 36) × (length l.cells ≡ 36) × Filled (word_at l.levels l.cells) 0 0 37 (l.q + 1) l.words
