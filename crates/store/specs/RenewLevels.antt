-- One transfer's turn in the working half of a change: where its flags and parts begin, and what its groups of parts leave.
-- Assumes nothing.
use Rattle.std.specs.Prelude.{ℕ, suc, ◌*◌, ◌≤◌, List, length, Float}
use Rattle.lattice.specs.Lattice.{FullLattice}
use Rattle.store.specs.Layout.{forward_off, turned_off, averaged_off, scale_off, eps_need}
use Rattle.store.specs.Phases.{operator_part}
use Rattle.store.specs.PhaseSteps.{averaged_from}
use Rattle.store.specs.FillSteps.{offsets_at}
use Rattle.store.specs.Rows.{Row}
use Rattle.store.specs.Parts.{part_off}
use Rattle.store.specs.Renewed.{Fixed, fixed, five, Renewed}
use Rattle.store.specs.declared.Choice.{Choice}
use Rattle.store.specs.declared.Choice.TheVariants.{Rediscretized}
use Rattle.store.specs.declared.change.Standing.{Standing}

-- of the transfer from level L + 1 to L
abbrev pub standing_at : FullLattice → Choice → ℕ → ℕ → Standing
standing_at l ch m L =
    record {
      o = offsets_at l L;
      base = part_off l ch m (suc (7 * L));
      from = averaged_from l m L;
      to = averaged_off l m L;
      scale = scale_off l L;
      operator = operator_part l ch m (suc L);
    }

-- room for the numbers of the weights
pub record WeightRoom (l : FullLattice) (ch : Choice) (m : ℕ) (e f t : List Float) : Type 0 where
  pub e_room : 2 * eps_need l ch m ≤ length e
  pub f_room : 2 * forward_off l m ≤ length f
  pub t_room : 2 * turned_off l m ≤ length t

-- the rows rs, of functions that see the permittivities and both kinds of weights, and that see those a rediscretized operator needs: whatever the other lists are
pub record WeightsRenewed (l : FullLattice) (ch : Choice) (m : ℕ) (rs : List Row) (e f t : List Float) (n : ℕ) (f' t' : List Float) : Type 0 where
  pub each : (x : Fixed) (o c : List Float) → Renewed l ch m x rs (five e f t o c) n (five e f' t' o c)

pub record ScaledRenewed (l : FullLattice) (m : ℕ) (ts tc : List ℕ) (rs : List Row) (e t o c : List Float) (n : ℕ) (o' c' : List Float) : Type 0 where
  pub each : (fs fc os oc : List ℕ) (f : List Float) → Renewed l Rediscretized m (fixed fs fc ts tc os oc) rs (five e f t o c) n (five e f t o' c')
