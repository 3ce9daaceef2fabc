-- `operators::pattern::relations_below` meets its contract.
-- Assumes nothing.
use Prim.Native.Nat.{ℕ}
use lib.ListN.{length-replicate}
use Rattle.numbers.proofs.ListLaws.{long_as}
use Rattle.operators.specs.Levels.{slot_word_no}
use Rattle.operators.proofs.LevelTableLaws.{entries_of, ready_of, below_of}
use Rattle.operators.proofs.pattern.relations_below.Goals as goal

pub forward_words-f-requires : goal.forward_words-f-requires
forward_words-f-requires c = entries_of c.slots_of-s.ensures.slots

pub coarsen-requires : goal.coarsen-requires
coarsen-requires c = ready_of c.slots_of-s.ensures.slots c.requires.t_len (long_as (slot_word_no _ _) 384 c.forward_words-f.ensures) (length-replicate {A = ℕ} 1152 0)

pub returns : goal.returns
returns c = below_of c.slots_of-s.ensures.slots _ c.forward_words-f.ensures c.coarsen.ensures
