-- `renew::parts::renew_levels` meets its contract. The invariant: where the parts of the next transfer begin, and the flagged rows of the transfers before it.
-- Assumes nothing.
use Rattle.store.specs.Hierarchy.{the_lattice}
use Prim.Native.Nat.{suc, ◌≤◌, ◌*◌}
use mathlib.Core.Path.{◌≡◌}
use Rattle.store.specs.Parts.{flagged_parts}
use Rattle.store.specs.Renewed.{Renewed}
use Rattle.store.specs.RenewSteps.{fine_of}
use Rattle.store.specs.RenewLevels.{standing_at}
use Rattle.store.specs.Lists.{fixed_of, five_of, SameNumbers}
use Rattle.renew.specs.Long.{SameLong}
use Rattle.renew.proofs.parts.renew_levels.Given as goal

abbrev pub invariant-loop-level : goal.invariant-loop-level
invariant-loop-level l =
    (l.level ≤ l.h.m)
    × ((l.w ≡ standing_at (the_lattice l.h) l.choice l.h.m l.level)
    × ((l.fine ≡ fine_of (the_lattice l.h) l.choice l.h.m l.level)
    × ((SameNumbers l.initial.n l.n × SameLong (five_of l.initial.n) (five_of l.n))
    × Renewed (the_lattice l.h) l.choice l.h.m (fixed_of l.s) (flagged_parts (the_lattice l.h) l.choice l.h.m l.flags (suc (7 * l.level)))
    (five_of l.initial.n) 0 (five_of l.n))))
