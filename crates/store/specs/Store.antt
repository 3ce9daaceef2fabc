-- The store (docs/SPECIFICATION.md, 11): twelve lent lists. Lists 2, 3 and 4 are three each: starts, columns, values. A number fills two doubles.
-- Assumes nothing.
use Rattle.std.specs.Prelude.{ℕ, List, length, replicate, Float}
use Rattle.numbers.specs.Complex.{zero_f}

pub record Store : Type 0 where
  -- list 0: line ends, level by level, in a level the axes in turn
  pub ends : List ℕ
  -- list 1: the chain of `coarse_eps` from level 0 on; then, if rediscretized, that of `averaged_eps` from level 1 on
  pub permittivities : List Float
  -- list 2: forward rows, a part for each transfer; starts count within their part
  pub forward_starts : List ℕ
  pub forward_columns : List ℕ
  pub forward_values : List Float
  -- list 3: turned rows, a part for each transfer
  pub turned_starts : List ℕ
  pub turned_columns : List ℕ
  pub turned_values : List Float
  -- list 4: operator rows, a part for each stored operator
  pub operator_starts : List ℕ
  pub operator_columns : List ℕ
  pub operator_values : List Float
  -- list 5: fine volumes and inverse shares of each transfer, none for Galerkin
  pub scaling : List Float

-- the lists that a call is lent
abbrev pub lent : List ℕ → List Float → List ℕ → List ℕ → List Float → List ℕ → List ℕ → List Float → List ℕ → List ℕ → List Float → List Float → Store
lent e p fs fc fv ts tc tv os oc ov sc =
    record {
      ends = e;
      permittivities = p;
      forward_starts = fs;
      forward_columns = fc;
      forward_values = fv;
      turned_starts = ts;
      turned_columns = tc;
      turned_values = tv;
      operator_starts = os;
      operator_columns = oc;
      operator_values = ov;
      scaling = sc;
    }

-- their lengths, in words and doubles
pub record Sizes : Type 0 where
  pub ends : ℕ
  pub permittivities : ℕ
  pub forward_starts : ℕ
  pub forward_columns : ℕ
  pub forward_values : ℕ
  pub turned_starts : ℕ
  pub turned_columns : ℕ
  pub turned_values : ℕ
  pub operator_starts : ℕ
  pub operator_columns : ℕ
  pub operator_values : ℕ
  pub scaling : ℕ

abbrev pub sizes : Store → Sizes
sizes s =
    record {
      ends = length s.ends;
      permittivities = length s.permittivities;
      forward_starts = length s.forward_starts;
      forward_columns = length s.forward_columns;
      forward_values = length s.forward_values;
      turned_starts = length s.turned_starts;
      turned_columns = length s.turned_columns;
      turned_values = length s.turned_values;
      operator_starts = length s.operator_starts;
      operator_columns = length s.operator_columns;
      operator_values = length s.operator_values;
      scaling = length s.scaling;
    }

-- zero in every word and every double, an odd double at the end included
abbrev pub zeroed : Store → Store
zeroed s =
    record {
      ends = replicate (length s.ends) 0;
      permittivities = replicate (length s.permittivities) zero_f;
      forward_starts = replicate (length s.forward_starts) 0;
      forward_columns = replicate (length s.forward_columns) 0;
      forward_values = replicate (length s.forward_values) zero_f;
      turned_starts = replicate (length s.turned_starts) 0;
      turned_columns = replicate (length s.turned_columns) 0;
      turned_values = replicate (length s.turned_values) zero_f;
      operator_starts = replicate (length s.operator_starts) 0;
      operator_columns = replicate (length s.operator_columns) 0;
      operator_values = replicate (length s.operator_values) zero_f;
      scaling = replicate (length s.scaling) zero_f;
    }
