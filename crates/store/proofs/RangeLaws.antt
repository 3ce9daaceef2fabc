-- What the rules read lies in its level, on every lattice within the limits. Assumes nothing.
use Rattle.lattice.specs.Grid.{Limits}
use Rattle.lattice.specs.Lattice.{FullLattice}
use Rattle.operators.proofs.GalerkinPattern.{galerkin_low}
use Rattle.operators.proofs.RangeLaws.{eps_reads_low, averaged_reads_low, weight_reads_low, weight_columns_low, turned_names_low, turned_reads_low, stencil_reads_low, first_reads_low}
use Rattle.store.specs.Layout.{blank, forward_cols, turned_cols, operator_cols}
use Rattle.store.proofs.RankLaws.{Ranges}

-- THE RANGES
pub ranges : (l : FullLattice) → Limits l.grid → Ranges l
unfolding forward_cols turned_cols operator_cols
ranges l limits =
    record {
      eps_low = eps_reads_low l limits;
      averaged_low = averaged_reads_low l limits;
      weight_low = weight_reads_low l limits;
      forward_low = weight_columns_low l limits;
      turned_low = λ L. turned_names_low l limits L blank;
      found_low = turned_reads_low l limits;
      operator_low = λ L r c b. galerkin_low l limits blank L r b c;
      stencil_low = stencil_reads_low l limits;
      first_low = first_reads_low l limits;
    }
