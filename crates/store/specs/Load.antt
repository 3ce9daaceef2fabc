-- What the plan of rows starts from: the lent lists with the lattice's ends, starts and columns and the given permittivities laid over them.
-- Assumes nothing.
use Rattle.std.specs.Prelude.{ℕ, suc, ◌*◌, List, Float}
use Rattle.numbers.specs.declared.C64.{C64}
use Rattle.numbers.specs.Places.{number_at}
use Rattle.numbers.specs.Lists.{tabulate, rows, laid, laid_numbers}
use Rattle.lattice.specs.Lattice.{FullLattice}
use Rattle.operators.specs.LevelLists.{edges_on}
use Rattle.store.specs.Store.{Store}
use Rattle.store.specs.Setup.{ends_part, forward_starts_of, forward_cols_of, turned_starts_of, turned_cols_of, operator_starts_of, operator_cols_of}
use Rattle.store.specs.declared.Choice.{Choice}

abbrev pub given : ℕ → List Float → List C64
given n eps = tabulate (number_at eps) n 0

abbrev pub load : FullLattice → Choice → ℕ → Store → List Float → Store
load l ch m b eps =
    record {
      ends = laid b.ends 0 (rows (ends_part l) (3 * suc m));
      permittivities = laid_numbers b.permittivities 0 (given (edges_on l 0) eps);
      forward_starts = laid b.forward_starts 0 (rows (forward_starts_of l) m);
      forward_columns = laid b.forward_columns 0 (rows (forward_cols_of l) m);
      forward_values = b.forward_values;
      turned_starts = laid b.turned_starts 0 (rows (turned_starts_of l) m);
      turned_columns = laid b.turned_columns 0 (rows (turned_cols_of l) m);
      turned_values = b.turned_values;
      operator_starts = laid b.operator_starts 0 (rows (operator_starts_of l ch m) (suc m));
      operator_columns = laid b.operator_columns 0 (rows (operator_cols_of l ch m) (suc m));
      operator_values = b.operator_values;
      scaling = b.scaling;
    }
