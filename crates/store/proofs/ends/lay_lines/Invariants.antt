-- `store::ends::lay_lines` meets its contract. The invariant: the ends of the lines passed are laid, one line behind another.
-- Assumes nothing.
use Prim.Native.Nat.{◌+◌, ◌*◌}
use lib.ListN.{set, get_or}
use Rattle.numbers.proofs.ListLaws.{Laying}
use Rattle.store.specs.Phases.{blank_line}
use Rattle.store.specs.PhaseSteps.{held_by}
use Rattle.store.proofs.ends.lay_lines.Given as goal

abbrev pub invariant-loop-f : goal.invariant-loop-f
invariant-loop-f l = Laying set (λ q. held_by (get_or l.lines q blank_line)) (3 * (l.m + 1)) 0 l.initial.ends l.ends l.next l.f-index
