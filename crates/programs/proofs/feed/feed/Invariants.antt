-- `programs::feed::feed` meets its contract.
-- Assumes nothing.
use mathlib.Core.Path.{◌≡◌}
use lib.ListN.{length, drop}
use Rattle.store.specs.Lists.{store_of, SameLists}
use Rattle.programs.specs.Reading.{machine, fed_all}
use Rattle.programs.proofs.feed.feed.Given as goal

-- what is still to come gives from here what the piece gives from the start, and each list is still the one that was lent
abbrev pub invariant-loop-b : goal.invariant-loop-b
invariant-loop-b l = record {
  left : fed_all l.limit (machine l.u l.held (store_of l.lists)) (drop l.b-index l.piece) ≡ fed_all l.limit (machine l.initial.u l.initial.held (store_of l.initial.lists)) l.piece;
  same : SameLists l.initial.lists l.lists;
  room : length l.held ≡ length l.initial.held;
}
