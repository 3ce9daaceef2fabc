-- Rows worked out anew under a guard that has saved what stood there (docs/SPECIFICATION.md, 12).
-- Assumes nothing.
use Rattle.std.specs.Prelude.{ℕ, ◌*◌, ◌≤◌, ◌≡◌, ◌⊎◌, List, map, length}
use Rattle.numbers.specs.Lists.{In}
use Rattle.lattice.specs.Lattice.{FullLattice}
use Rattle.store.specs.Cells.{Cell, place_of}
use Rattle.store.specs.Parts.{part_off, part_count}
use Rattle.store.specs.Places.{Place}
use Rattle.store.specs.Plan.{Rules, run, first_bad, Stands}
use Rattle.store.specs.Renewed.{Fixed, Five, store_of, Shaped, FiveRoom}
use Rattle.store.specs.RenewSteps.{NoVolumes}
use Rattle.store.specs.Rows.{Row, rules}
use Rattle.store.specs.Space.{Space, puts}
use Rattle.store.specs.Work.{Structured}
use Rattle.store.specs.Worked.{code}
use Rattle.store.specs.declared.Choice.{Choice}

-- The rows rs have been worked out over the store s, with the answer n; t is left. Where a number is not finite t is s, once the places ps are put back.
pub record Left {X : Space} (R : Rules X) (rs : List R.Row) (s : X.S) (ps : List X.P) (n : ℕ) (t : X.S) : Type 0 where
  pub told : n ≡ code (first_bad R rs s)
  pub done : n ≡ 0 → t ≡ run R rs s
  pub back : (n ≡ 0 → ⊥) → puts X t ps (X.get s) ≡ s

-- what the work at the bottom of the guard needs, of a lattice whose levels are held
pub record Ready (l : FullLattice) (ch : Choice) (m : ℕ) (flags : List ℕ) (x : Fixed) (v : Five) : Type 0 where
  pub shaped : Shaped l ch m x
  pub room : FiveRoom l ch m v
  pub flags_long : part_off l ch m (part_count m) ≤ 64 * length flags
  pub no_volumes : NoVolumes l ch m flags

-- the doubles ds are yet to be saved: whichever places ps callers have saved, if every place of the rows is one of these or of ds
pub record Guarded (l : FullLattice) (ch : Choice) (m : ℕ) (x : Fixed) (rs : List Row) (ds : List Cell) (v : Five) (n : ℕ) (u : Five) : Type 0 where
  pub left : (ends : List ℕ) → Structured l ch m (store_of ends x v) → (ps : List Place)
      → ((p : Place) → Stands (rules l ch m) p rs → In p ps ⊎ In p (map place_of ds))
      → Left (rules l ch m) rs (store_of ends x v) ps n (store_of ends x u)
