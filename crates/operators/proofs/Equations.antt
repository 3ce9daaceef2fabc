-- Definitions of this layer as equations, by cases, for the layers above: where no law says more.
-- Assumes nothing.
use Prim.Native.Nat.{ℕ, zero, suc, ◌+◌}
use mathlib.Core.Path.{◌≡◌, refl}
use mathlib.Core.Bool.{true, ◌&&◌}
use mathlib.Core.List.{List}
use lib.Ieee.{Float}
use Rattle.numbers.specs.declared.C64.{C64}
use Rattle.numbers.specs.declared.terms.Part.{Part}
use Rattle.numbers.specs.Lists.{each, laid_numbers, start_of}
use Rattle.numbers.specs.Terms.{Term, columns_of, numbers_of}
use Rattle.numbers.specs.Transpose.{turned_row}
use Rattle.lattice.specs.Grid.{unknowns_of}
use Rattle.lattice.specs.Lattice.{FullLattice}
use Rattle.weights.specs.CoarseEps.{coarse_eps}
use Rattle.weights.specs.Prolongation.{prolongation_row}
use Rattle.weights.specs.TwoLevels.{two_at, fine_grid}
use Rattle.operators.specs.Averaged.{averaged_eps}
use Rattle.operators.specs.Galerkin.{galerkin_row, galerkin_columns, galerkin_numbers, fine_rows_read, columns_at, forward_rows_read, row_laid}
use Rattle.operators.specs.Levels.{eps_at, averaged_on, forward_at, turned_at, galerkin_at, lattice_at, rediscretized_at, volumes_at, inverse_shares_at}
use Rattle.operators.specs.Stencil.{stencil_row}
use Rattle.operators.specs.Volumes.{volume_of, inverse_share, share_finite, shares_finite}

module _ (l : FullLattice) (f : ℕ → C64) where
  pub eps_at_zero : eps_at l f zero ≡ f
  unfolding eps_at
  eps_at_zero = refl

  pub eps_at_suc : (L : ℕ) → eps_at l f (suc L) ≡ coarse_eps (two_at l L) (eps_at l f L)
  unfolding eps_at
  eps_at_suc L = refl

  pub averaged_on_zero : averaged_on l f zero ≡ f
  unfolding averaged_on
  averaged_on_zero = refl

  pub averaged_on_suc : (L : ℕ) → averaged_on l f (suc L) ≡ averaged_eps (two_at l L) (averaged_on l f L)
  unfolding averaged_on
  averaged_on_suc L = refl

  pub forward_at_is : (L : ℕ) → forward_at l f L ≡ prolongation_row (two_at l L) (eps_at l f L) (eps_at l f (suc L))
  unfolding forward_at
  forward_at_is L = refl

  pub turned_at_is : (L : ℕ) → turned_at l f L ≡ turned_row (forward_at l f L) (unknowns_of (fine_grid (two_at l L)))
  unfolding turned_at
  turned_at_is L = refl

  pub galerkin_at_zero : galerkin_at l f zero ≡ stencil_row l f
  unfolding galerkin_at
  galerkin_at_zero = refl

  pub galerkin_at_suc : (L : ℕ) → galerkin_at l f (suc L) ≡ galerkin_row (galerkin_at l f L) (forward_at l f L) (turned_at l f L)
  unfolding galerkin_at
  galerkin_at_suc L = refl

  pub rediscretized_at_is : (L : ℕ) → rediscretized_at l f L ≡ stencil_row (lattice_at l L) (averaged_on l f L)
  unfolding rediscretized_at
  rediscretized_at_is L = refl

  pub inverse_shares_at_is : (L : ℕ) → inverse_shares_at l f L ≡ inverse_share (turned_at l f L) (volumes_at l L)
  unfolding inverse_shares_at
  inverse_shares_at_is L = refl

pub volumes_at_is : (l : FullLattice) (L : ℕ) → volumes_at l L ≡ volume_of (lattice_at l L)
unfolding volumes_at
volumes_at_is l L = refl

pub galerkin_columns_is : (A P R : ℕ → List Term) (c : ℕ) → galerkin_columns A P R c ≡ columns_of (galerkin_row A P R c)
unfolding galerkin_columns
galerkin_columns_is A P R c = refl

pub galerkin_numbers_is : (A P R : ℕ → List Term) (c : ℕ) → galerkin_numbers A P R c ≡ numbers_of (galerkin_row A P R c)
unfolding galerkin_numbers
galerkin_numbers_is A P R c = refl

pub fine_rows_read_is : (R : ℕ → List Term) (c : ℕ) → fine_rows_read R c ≡ columns_of (R c)
unfolding fine_rows_read
fine_rows_read_is R c = refl

pub row_laid_is : (A P R : ℕ → List Term) (c : ℕ) (o : Part) (xs : List Float)
    → row_laid A P R c o xs ≡ laid_numbers xs (o.k + start_of (galerkin_columns A P R) c) (galerkin_numbers A P R c)
unfolding row_laid
row_laid_is A P R c o xs = refl

pub forward_rows_read_is : (A R : ℕ → List Term) (c : ℕ) → forward_rows_read A R c ≡ each (λ r. columns_of (A r)) (columns_of (R c))
unfolding forward_rows_read fine_rows_read columns_at
forward_rows_read_is A R c = refl

pub shares_finite_zero : (R : ℕ → List Term) (v : ℕ → C64) → shares_finite R v zero ≡ true
unfolding shares_finite
shares_finite_zero R v = refl

pub shares_finite_suc : (R : ℕ → List Term) (v : ℕ → C64) (n : ℕ) → shares_finite R v (suc n) ≡ (shares_finite R v n && share_finite R v n)
unfolding shares_finite
shares_finite_suc R v n = refl

pub lattice_at_zero : (l : FullLattice) → lattice_at l zero ≡ l
unfolding lattice_at
lattice_at_zero l = refl

pub rediscretized_first : (l : FullLattice) (f : ℕ → C64) (r : ℕ) → rediscretized_at l f zero r ≡ stencil_row l f r
unfolding rediscretized_at lattice_at averaged_on
rediscretized_first l f r = refl
