-- The operators and the scaling of all levels, of either choice: what they ask for, and what they leave for every reader f of the given permittivities of
-- which the lists have what is asked.
-- Assumes nothing.
use Rattle.std.specs.Prelude.{ℕ, zero, suc, ◌*◌, ◌≤◌, ◌≡◌, Bool, cond, List, Float, length}
use Rattle.numbers.specs.declared.C64.{C64}
use Rattle.numbers.specs.Lists.{rows, laid_numbers, all_finite}
use Rattle.lattice.specs.Lattice.{FullLattice}
use Rattle.store.specs.Layout.{eps_off, eps_need, scale_need}
use Rattle.store.specs.Setup.{averaged_part, operator_numbers, scale_part, only_numbers}
use Rattle.store.specs.Phases.{OperatorRoom, OperatorsLeft, first_of, operator_fine, averaged_fine, scale_fine}
use Rattle.store.specs.FillSteps.{TransfersBy}
use Rattle.store.specs.PhaseSteps.{TurnedStored, TurnedIn}
use Rattle.store.specs.declared.Choice.{Choice}
use Rattle.store.specs.declared.Choice.TheVariants.{Galerkin, Rediscretized}

-- ---- the operators of either choice

abbrev pub chosen_fine : FullLattice → Choice → ℕ → (ℕ → C64) → ℕ → Bool
chosen_fine l Galerkin m f = operator_fine l Galerkin m f
chosen_fine l Rediscretized m f = averaged_fine l m f

-- the first coarse level that is not finite; of a sole level 1 where it is not
abbrev pub operators_code : FullLattice → Choice → ℕ → (ℕ → C64) → ℕ
operators_code l ch zero f = cond (all_finite (operator_numbers l ch 0 f 0)) 0 1
operators_code l ch (suc m) f = first_of (chosen_fine l ch (suc m) f) (suc m)

pub record ChosenLeft (l : FullLattice) (ch : Choice) (f : ℕ → C64) (m : ℕ) (eps : List Float) (os oc : List ℕ) (ox eps' : List Float) (os' oc' : List ℕ) (ox' : List Float) (r : ℕ) : Type 0 where
  pub averaged : eps' ≡ laid_numbers eps (eps_off l (suc m)) (only_numbers ch (rows (averaged_part l f) m))
  pub operators : OperatorsLeft l ch f m m os oc ox os' oc' ox'
  pub bad : r ≡ operators_code l ch m f

-- ---- the scaling

abbrev pub scaling_code : FullLattice → Choice → ℕ → (ℕ → C64) → ℕ
scaling_code l Galerkin m f = 0
scaling_code l Rediscretized m f = first_of (scale_fine l f) m

pub record ScaledLeft (l : FullLattice) (ch : Choice) (f : ℕ → C64) (m : ℕ) (xs xs' : List Float) (r : ℕ) : Type 0 where
  pub numbers : xs' ≡ laid_numbers xs 0 (only_numbers ch (rows (scale_part l f) m))
  pub bad : r ≡ scaling_code l ch m f

-- ---- room

pub record ChosenRoom (l : FullLattice) (ch : Choice) (m : ℕ) (eps : List Float) (os oc : List ℕ) (ox : List Float) : Type 0 where
  pub operator_room : OperatorRoom l ch m os oc ox
  pub eps_room : 2 * eps_need l ch m ≤ length eps

pub record ScalingAsked (l : FullLattice) (ch : Choice) (m : ℕ) (ts us : List ℕ) (ys xs : List Float) : Type 0 where
  pub stored : TurnedStored l m ts us ys
  pub room : 2 * scale_need l ch m ≤ length xs

-- ---- for every reader of which the lists have what is asked

pub record ChosenDone (l : FullLattice) (ch : Choice) (m : ℕ) (eps : List Float) (ss cs : List ℕ) (xs : List Float) (ts us : List ℕ) (ys : List Float)
    (os oc : List ℕ) (ox eps' : List Float) (os' oc' : List ℕ) (ox' : List Float) (r : ℕ) : Type 0 where
  pub left : (f : ℕ → C64) → TransfersBy l f m eps ss cs xs ts us ys → ChosenLeft l ch f m eps os oc ox eps' os' oc' ox' r

pub record ScalingDone (l : FullLattice) (ch : Choice) (m : ℕ) (ts us : List ℕ) (ys vs vs' : List Float) (r : ℕ) : Type 0 where
  pub left : (f : ℕ → C64) → TurnedIn l f m ts us ys → ScaledLeft l ch f m vs vs' r
