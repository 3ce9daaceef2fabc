-- `lattice::levels::levels` meets its contract: a sound input gives what the level loop requires.
-- Assumes nothing.
use Rattle.lattice.proofs.LevelLaws.{answered_refused, answered_found}
use Rattle.lattice.proofs.CheckLaws.{told, stretches_sound}
use Rattle.lattice.proofs.levels.levels.Goals as goal

pub returns-in-Err : goal.returns-in-Err
returns-in-Err c = rw c.from.ensures (answered_refused _ _ _ _ _ _ _ _ c.in-Err.c c.in-Err.ensures c.no_line.ensures)

pub stretches-st-requires-clause-lengths : goal.stretches-st-requires-clause-lengths
stretches-st-requires-clause-lengths c = (stretches_sound c.args.v _ _ _ _ _ _ (told c.in_default.ensures)).1

pub stretches-st-requires-clause-lengths_2 : goal.stretches-st-requires-clause-lengths_2
stretches-st-requires-clause-lengths_2 c = (stretches_sound c.args.v _ _ _ _ _ _ (told c.in_default.ensures)).2

pub invariant_of-l : goal.invariant_of-l
invariant_of-l c = record { limits = (stretches_sound c.args.v _ _ _ _ _ _ (told c.in_default.ensures)).0 }

pub returns : goal.returns
returns c = answered_found _ _ _ _ _ _ _ _ c.join_lines-found.result c.in_default.ensures c.stretches-st.ensures.1 c.join_lines-found.ensures c.ok_or.ensures.value
