-- `lattice::levels::join_lines` meets its contract. The invariant, for each lattice that has these maps and this finest level, since the loop
-- itself does not hold the lattice: the level's lines are those of the definition, the levels before it are stored, and the depth is still to find.
use Prim.Native.Nat.{◌≤◌}
use mathlib.Core.Path.{◌≡◌}
use lib.ListN.{length}
use Rattle.lattice.specs.Lattice.{FullLattice}
use Rattle.lattice.specs.Levels.{maps_of, three_at}
use Rattle.lattice.specs.Grid.{Limits}
use Rattle.lattice.proofs.LevelLaws.{Stored}
use Rattle.lattice.proofs.levels.join_lines.Given as goal

abbrev pub invariant-loop-level : goal.invariant-loop-level
invariant-loop-level l =
    (l.level ≤ 12)
    × (length l.lines ≡ 36)
    × ((g : FullLattice) → Limits g.grid → l.m ≡ maps_of g → l.initial.t ≡ three_at g 0 → Stored g l.coarsest l.level l.lines l.t)
