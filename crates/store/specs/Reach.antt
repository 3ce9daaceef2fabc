-- The rows that a change reaches, by flags of each level (docs/SPECIFICATION.md, 12): structure alone. Edge e of level 0 is changed. `proofs/ReachLaws` shows that these
-- are just the rows that the plan's `reached` names. Assumes nothing: these are definitions.
use Rattle.std.specs.Prelude.{ℕ, zero, suc, List, [], ◌∷◌, Bool, false, ◌||◌, eqb}
use Rattle.lattice.specs.Lattice.{FullLattice}
use Rattle.numbers.specs.Lists.{each}
use Rattle.weights.specs.CoarseEps.{eps_reads}
use Rattle.weights.specs.Prolongation.{weight_reads}
use Rattle.weights.specs.TwoLevels.{two_at}
use Rattle.operators.specs.Averaged.{averaged_reads}
use Rattle.operators.specs.Levels.{lattice_at}
use Rattle.operators.specs.Stencil.{stencil_reads}
use Rattle.store.specs.Layout.{forward_cols, turned_cols, operator_cols}
use Rattle.store.specs.declared.Choice.{Choice}
use Rattle.store.specs.declared.Choice.TheVariants.{Galerkin, Rediscretized}
use Rattle.store.specs.Rows.{Row, coarse, averaged, forward, turned, volume, share, operator}

unfoldable pub any : (ℕ → Bool) → List ℕ → Bool
any f [] = false
any f (x ∷ xs) = f x || any f xs

module _ (l : FullLattice) (e : ℕ) where
  -- the permittivities of level L, in the first chain and in the averaged one
  unfoldable pub eps_hit : ℕ → ℕ → Bool
  eps_hit zero r = eqb r e
  eps_hit (suc L) r = any (eps_hit L) (eps_reads (two_at l L) r)

  unfoldable pub averaged_hit : ℕ → ℕ → Bool
  averaged_hit zero r = eqb r e
  averaged_hit (suc L) r = any (averaged_hit L) (averaged_reads (two_at l L) r)

  -- forward row r and turned row c of the transfer from level L + 1 to L
  unfoldable pub forward_hit : ℕ → ℕ → Bool
  forward_hit L r = any (eps_hit L) (weight_reads (two_at l L) r) || any (eps_hit (suc L)) (forward_cols l L r)

  unfoldable pub turned_hit : ℕ → ℕ → Bool
  turned_hit L c = any (forward_hit L) (turned_cols l L c)

  -- row r of level L's operator, stored or computed: Galerkin's if its turned row is reached, or a fine row in it, or a forward row that those name
  unfoldable pub galerkin_hit : ℕ → ℕ → Bool
  galerkin_hit zero r = any (eps_hit 0) (stencil_reads l r)
  galerkin_hit (suc L) c =
      turned_hit L c || (any (galerkin_hit L) (turned_cols l L c) || any (forward_hit L) (each (operator_cols l Galerkin L) (turned_cols l L c)))

  unfoldable pub rediscretized_hit : ℕ → ℕ → Bool
  rediscretized_hit L r = any (averaged_hit L) (stencil_reads (lattice_at l L) r)

abbrev pub operator_hit : FullLattice → ℕ → Choice → ℕ → ℕ → Bool
operator_hit l e Galerkin L r = galerkin_hit l e L r
operator_hit l e Rediscretized L r = rediscretized_hit l e L r

abbrev pub hit : FullLattice → ℕ → Choice → Row → Bool
hit l e ch (coarse L r) = eps_hit l e (suc L) r
hit l e ch (averaged L r) = averaged_hit l e (suc L) r
hit l e ch (forward L r) = forward_hit l e L r
hit l e ch (turned L c) = turned_hit l e L c
hit l e ch (volume L r) = false
hit l e ch (share L c) = turned_hit l e L c
hit l e ch (operator L r) = operator_hit l e ch L r
