-- The rediscretized operator of the next level, for every reader of the permittivities that it is worked out from; and the levels of one chain.
-- Assumes nothing.
use Prim.Native.Nat.{ℕ, suc, ◌<◌}
use mathlib.Core.Path.{◌≡◌, refl, ap, ◌∙◌}
use mathlib.Core.Bool.{Bool, ◌&&◌}
use mathlib.Core.List.{List}
use lib.Ieee.{Float}
use Rattle.numbers.specs.declared.C64.{C64}
use Rattle.numbers.specs.Complex.{no_number}
use Rattle.numbers.specs.Lists.{tabulate, rows, laid_numbers, all_finite, read_from}
use Rattle.numbers.specs.Terms.{numbers_of, LaidRows}
use Rattle.numbers.proofs.TabulateLaws.{tabulate_agree}
use Rattle.numbers.proofs.ListLaws.{rows_agree}
use Rattle.lattice.specs.declared.levels.Three.{Three}
use Rattle.lattice.specs.Grid.{unknowns_of}
use Rattle.lattice.specs.Lattice.{FullLattice}
use Rattle.lattice.specs.Levels.{three_at}
use Rattle.weights.specs.Tables.{lines_in}
use Rattle.weights.specs.TwoLevels.{coarse_grid, two_at, two_of}
use Rattle.numbers.specs.declared.terms.Part.{Part}
use Rattle.operators.specs.Averaged.{averaged_eps}
use Rattle.operators.specs.LevelLists.{edges_on, averaged_next, rediscretized_next, AveragedGiven, AveragedLeft}
use Rattle.operators.specs.Levels.{averaged_on, rediscretized_at, lattice_at}
use Rattle.operators.specs.Rediscretized.{rediscretized_lattice}
use Rattle.operators.specs.Stencil.{stencil_row}
use Rattle.operators.proofs.RangeLaws.{averaged_agree}
use Rattle.operators.proofs.LevelListLaws.{lattice_limits}
use Rattle.operators.proofs.RediscretizedLists.{stencil_agree, turned_agree, lattice_edges, averaged_laid, averaged_finite, rediscretized_turned, rediscretized_finite}

-- ---- the levels of one chain: the reader of the next level's permittivities, and its rows

module _ (l : FullLattice) (f : ℕ → C64) (L : ℕ) where
  pub averaged_next_lem : averaged_next l (averaged_on l f L) L ≡ tabulate (averaged_on l f (suc L)) (edges_on l (suc L)) 0
  unfolding averaged_on
  averaged_next_lem = refl

  pub rediscretized_next_lem : rediscretized_next l (averaged_on l f L) L ≡ rediscretized_at l f (suc L)
  unfolding rediscretized_at averaged_on
  rediscretized_next_lem = refl

-- ---- readers that agree

module _ {l : FullLattice} {fine coarse : Three} {eps : List Float} {from to : ℕ} {f : ℕ → C64} {L : ℕ} (given : AveragedGiven l fine coarse eps from to f L) where
  abbrev read : ℕ → C64
  read = read_from eps from

  pub both_lines : (fine ≡ three_at l L) × (coarse ≡ three_at l (suc L))
  both_lines = (given.fine_lines, given.coarse_lines)

  mean_is : (r : ℕ) → r < edges_on l (suc L) → averaged_eps (two_at l L) read r ≡ averaged_eps (two_at l L) f r
  mean_is = averaged_agree l given.limits L read f given.reads

  means_are : averaged_next l read L ≡ averaged_next l f L
  means_are = tabulate_agree (averaged_eps (two_at l L) read) (averaged_eps (two_at l L) f) (edges_on l (suc L)) no_number mean_is

  row_is : (r : ℕ) → r < edges_on l (suc L) → rediscretized_next l read L r ≡ rediscretized_next l f L r
  row_is r h =
      let e : unknowns_of (lattice_at l (suc L)).grid ≡ edges_on l (suc L) = lattice_edges l L in
      stencil_agree (lattice_at l (suc L)) (lattice_limits l given.limits (suc L)) r (rw e h) (averaged_eps (two_at l L) read) (averaged_eps (two_at l L) f)
      (λ c b. mean_is c (rw e at b))

  rows_are : rows (rediscretized_next l read L) (edges_on l (suc L)) ≡ rows (rediscretized_next l f L) (edges_on l (suc L))
  rows_are = rows_agree (rediscretized_next l read L) (rediscretized_next l f L) (edges_on l (suc L)) row_is

-- ---- what the steps leave

module _ {l : FullLattice} {fine coarse : Three} {eps : List Float} {from to : ℕ} {eps' : List Float}
    (laid : eps' ≡ laid_numbers eps to (tabulate (averaged_eps (two_of l fine coarse) (read_from eps from)) (unknowns_of (coarse_grid (two_of l fine coarse))) 0))
    {m : FullLattice} (own : m ≡ rediscretized_lattice l (lines_in coarse)) where
  -- the rows are worked out on the lattice m
  module _ {o : Part} {os oc os' oc' : List ℕ} {ox ox' : List Float} {x y : Bool}
      (known : x ≡ all_finite (tabulate (averaged_eps (two_of l fine coarse) (read_from eps from)) (unknowns_of (coarse_grid (two_of l fine coarse))) 0))
      (operator : LaidRows (stencil_row m (read_from eps' to)) (unknowns_of m.grid) os o.s oc ox o.k os' oc' ox')
      (sound : y ≡ all_finite (numbers_of (rows (stencil_row m (read_from eps' to)) (unknowns_of m.grid)))) where
    pub level_left : {b : Bool} → ((v w : Bool) → x ≡ v → y ≡ w → b ≡ (v && w)) → AveragedLeft l fine coarse eps from to o os oc ox eps' os' oc' ox' b
    level_left both =
        record {
          averaged = λ f L u. averaged_laid l L u.limits (both_lines u) u.chain laid ∙ ap (laid_numbers eps to) (means_are u);
          operator = λ f L u. turned_agree (row_is u) (rediscretized_turned l L u.limits (both_lines u) u.chain laid own operator);
          finite = λ f L u.
              both _ _ (averaged_finite l L u.limits (both_lines u) u.chain known) (rediscretized_finite l L u.limits (both_lines u) u.chain laid own sound)
              ∙ (λ i. all_finite (means_are u i) && all_finite (numbers_of (rows_are u i)));
        }
