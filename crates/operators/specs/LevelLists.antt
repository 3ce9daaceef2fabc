-- A level's transfer and operator in lists (docs/SPECIFICATION.md, 9 and 10), and what the next level's is worked out from and leaves there.
-- Assumes nothing.
use Rattle.std.specs.Prelude.{ℕ, suc, ◌+◌, ◌*◌, ◌<◌, ◌≤◌, ◌^◌, ◌≡◌, Bool, ◌&&◌, List, length, get_or, Float}
use Rattle.numbers.specs.declared.C64.{C64}
use Rattle.numbers.specs.Places.{number_at}
use Rattle.numbers.specs.Lists.{tabulate, rows, laid_numbers, all_finite, start_of, read_from}
use Rattle.numbers.specs.Terms.{Term, numbers_of, Stored, Room, LaidRows}
use Rattle.lattice.specs.declared.grid.Grid3d.{Grid3d}
use Rattle.lattice.specs.declared.levels.Three.{Three}
use Rattle.lattice.specs.Grid.{unknowns_of, Limits}
use Rattle.lattice.specs.Lattice.{FullLattice}
use Rattle.lattice.specs.Levels.{three_at}
use Rattle.weights.specs.Tables.{ChainRoom}
use Rattle.weights.specs.TwoLevels.{two_at}
use Rattle.numbers.specs.declared.terms.Part.{Part}
use Rattle.operators.specs.declared.galerkin.FineRows.{FineRows}
use Rattle.operators.specs.declared.galerkin.FineRows.TheVariants.{Computed, Stored as StoredFrom}
use Rattle.operators.specs.Averaged.{averaged_eps}
use Rattle.operators.specs.Galerkin.{rows_in}
use Rattle.operators.specs.Levels.{grid_at, ladder_of, forward_at, turned_at, galerkin_at, lattice_at}
use Rattle.operators.specs.Numbered.{Right, word_count}
use Rattle.operators.specs.Stencil.{stencil_row}

abbrev pub edges_on : FullLattice → ℕ → ℕ
edges_on l L = unknowns_of (grid_at l L)

-- the transfer between levels L and L + 1 stands in lists: forward rows from p on, turned rows from t on; f reads the given permittivities
pub record TransferIn (l : FullLattice) (f : ℕ → C64) (L : ℕ) (p : Part) (ss cs : List ℕ) (xs : List Float) (t : Part) (ts us : List ℕ) (ys : List Float) : Type 0 where
  pub forward_stored : Stored ss p.s cs xs p.k (edges_on l L) (edges_on l (suc L))
  pub turned_stored : Stored ts t.s us ys t.k (edges_on l (suc L)) (edges_on l L)
  pub forward_are : (r : ℕ) → r < edges_on l L → rows_in p ss cs xs r ≡ forward_at l f L r
  pub turned_are : (c : ℕ) → c < edges_on l (suc L) → rows_in t ts us ys c ≡ turned_at l f L c
  pub forward_count_is : get_or ss (p.s + edges_on l L) 0 ≡ start_of (forward_at l f L) (edges_on l L)
  pub turned_count_is : get_or ts (t.s + edges_on l (suc L)) 0 ≡ start_of (turned_at l f L) (edges_on l (suc L))

-- Galerkin's operator of level L stands in lists
pub record OperatorIn (l : FullLattice) (f : ℕ → C64) (L : ℕ) (o : Part) (ss cs : List ℕ) (xs : List Float) : Type 0 where
  pub stored : Stored ss o.s cs xs o.k (edges_on l L) (edges_on l L)
  pub rows_are : (r : ℕ) → r < edges_on l L → rows_in o ss cs xs r ≡ galerkin_at l f L r
  pub count_is : get_or ss (o.s + edges_on l L) 0 ≡ start_of (galerkin_at l f L) (edges_on l L)

-- ---- Galerkin's operator of level L + 1, over that of level L

-- the operator of level L stands before the part o
pub record OperatorBefore (l : FullLattice) (f : ℕ → C64) (L : ℕ) (q o : Part) (ss cs : List ℕ) (xs : List Float) : Type 0 where
  pub there : OperatorIn l f L q ss cs xs
  pub starts_end : q.s + edges_on l L < o.s
  pub terms_end : q.k + get_or ss (q.s + edges_on l L) 0 ≤ o.k

-- level L is level 0, whose operator is the lattice's own, and the list has the given permittivities
pub record OperatorGiven (l : FullLattice) (f : ℕ → C64) (L : ℕ) (eps : List Float) : Type 0 where
  pub level : L ≡ 0
  pub room : 2 * edges_on l L ≤ length eps
  pub reads : (r : ℕ) → r < edges_on l L → number_at eps r ≡ f r

module _ (fine : FineRows) (l : FullLattice) (eps : List Float) (g : Grid3d) (u : List ℕ)
    (p : Part) (ss cs : List ℕ) (xs : List Float) (t : Part) (ts us : List ℕ) (ys : List Float) (o : Part) (os oc : List ℕ) (ox : List Float) where
  -- level L + 1 has the cells g and the relations u; the transfer and the fine operator are there, and room for the next from part o on
  pub record LevelGiven (f : ℕ → C64) (L : ℕ) : Type 0 where
    pub limits : Limits l.grid
    pub cells : g ≡ grid_at l (suc L)
    pub relations : Right (ladder_of l) (suc L) u
    pub transfer : TransferIn l f L p ss cs xs t ts us ys
    pub computed : fine ≡ Computed → OperatorGiven l f L eps
    pub stored : (q : Part) → fine ≡ StoredFrom q → OperatorBefore l f L q o os oc ox
    pub room : Room os o.s oc ox o.k (start_of (galerkin_at l f (suc L)) (edges_on l (suc L))) (edges_on l (suc L))

  -- this holds of some level and some permittivities
  pub record LevelReady : Type 0 where
    pub reader : ℕ → C64
    pub level : ℕ
    pub given : LevelGiven reader level
    pub long : length u ≡ word_count

  -- of whichever it holds, the operator of level L + 1 is left in the lists, and b says whether its numbers are finite
  pub record LevelLeft (os' oc' : List ℕ) (ox' : List Float) (b : Bool) : Type 0 where
    pub operator : (f : ℕ → C64) (L : ℕ) → LevelGiven f L → LaidRows (galerkin_at l f (suc L)) (edges_on l (suc L)) os o.s oc ox o.k os' oc' ox'
    pub finite : (f : ℕ → C64) (L : ℕ) → LevelGiven f L → b ≡ all_finite (numbers_of (rows (galerkin_at l f (suc L)) (edges_on l (suc L))))

-- ---- the rediscretized operator of level L + 1, and its permittivities

-- f reads the permittivities of level L: the means around the edges of level L + 1, and the rows of the operator there
abbrev pub averaged_next : FullLattice → (ℕ → C64) → ℕ → List C64
averaged_next l f L = tabulate (averaged_eps (two_at l L) f) (edges_on l (suc L)) 0

abbrev pub rediscretized_next : FullLattice → (ℕ → C64) → ℕ → ℕ → List Term
rediscretized_next l f L = stencil_row (lattice_at l (suc L)) (averaged_eps (two_at l L) f)

module _ (l : FullLattice) (fine coarse : Three) (eps : List Float) (from to : ℕ) where
  -- the lines are those of levels L and L + 1; f reads the permittivities of level L, which stand in the list from place `from` on, and there is room
  -- for those of level L + 1 from place `to` on
  pub record AveragedGiven (f : ℕ → C64) (L : ℕ) : Type 0 where
    pub limits : Limits l.grid
    pub fine_lines : fine ≡ three_at l L
    pub coarse_lines : coarse ≡ three_at l (suc L)
    pub chain : ChainRoom (edges_on l L) (edges_on l (suc L)) from to eps
    pub reads : (r : ℕ) → r < edges_on l L → read_from eps from r ≡ f r

  -- this holds of some level and some permittivities
  pub record AveragedReady (o : Part) : Type 0 where
    pub reader : ℕ → C64
    pub level : ℕ
    pub given : AveragedGiven reader level
    pub starts_low : o.s ≤ 2 ^ 32
    pub low : o.k ≤ 2 ^ 32

  -- of whichever it holds, the permittivities of level L + 1 and the operator are left in the lists, and b says whether all numbers are finite
  pub record AveragedLeft (o : Part) (os oc : List ℕ) (ox eps' : List Float) (os' oc' : List ℕ) (ox' : List Float) (b : Bool) : Type 0 where
    pub averaged : (f : ℕ → C64) (L : ℕ) → AveragedGiven f L → eps' ≡ laid_numbers eps to (averaged_next l f L)
    pub operator : (f : ℕ → C64) (L : ℕ) → AveragedGiven f L → LaidRows (rediscretized_next l f L) (edges_on l (suc L)) os o.s oc ox o.k os' oc' ox'
    pub finite : (f : ℕ → C64) (L : ℕ) → AveragedGiven f L
        → b ≡ (all_finite (averaged_next l f L) && all_finite (numbers_of (rows (rediscretized_next l f L) (edges_on l (suc L)))))
