-- The store as places: a word or a double of one of its lists each. What the plan of rows is stated over.
-- Assumes nothing.
use Rattle.std.specs.Prelude.{ℕ, ◌<◌, get_or, set, Float}
use Rattle.std.proofs.Math.Decide.{ℕ_discrete}
use Rattle.std.specs.Float.{nan}
use Rattle.store.specs.Space.{Space}
use Rattle.store.specs.Store.{Store, Sizes, sizes}

pub data Place : Type 0 where
  ends_at permittivities_at forward_starts_at forward_columns_at forward_values_at turned_starts_at turned_columns_at turned_values_at operator_starts_at operator_columns_at operator_values_at scaling_at : ℕ → Place
  deriving Discrete as place_discrete

abbrev pub Val : Place → Type 0
Val (ends_at i) = ℕ
Val (permittivities_at i) = Float
Val (forward_starts_at i) = ℕ
Val (forward_columns_at i) = ℕ
Val (forward_values_at i) = Float
Val (turned_starts_at i) = ℕ
Val (turned_columns_at i) = ℕ
Val (turned_values_at i) = Float
Val (operator_starts_at i) = ℕ
Val (operator_columns_at i) = ℕ
Val (operator_values_at i) = Float
Val (scaling_at i) = Float

unfoldable pub get : Store → (p : Place) → Val p
get s (ends_at i) = get_or s.ends i 0
get s (permittivities_at i) = get_or s.permittivities i nan
get s (forward_starts_at i) = get_or s.forward_starts i 0
get s (forward_columns_at i) = get_or s.forward_columns i 0
get s (forward_values_at i) = get_or s.forward_values i nan
get s (turned_starts_at i) = get_or s.turned_starts i 0
get s (turned_columns_at i) = get_or s.turned_columns i 0
get s (turned_values_at i) = get_or s.turned_values i nan
get s (operator_starts_at i) = get_or s.operator_starts i 0
get s (operator_columns_at i) = get_or s.operator_columns i 0
get s (operator_values_at i) = get_or s.operator_values i nan
get s (scaling_at i) = get_or s.scaling i nan

unfoldable pub put : Store → (p : Place) → Val p → Store
put s (ends_at i) v = record { ends = set s.ends i v; permittivities = s.permittivities; forward_starts = s.forward_starts; forward_columns = s.forward_columns; forward_values = s.forward_values; turned_starts = s.turned_starts; turned_columns = s.turned_columns; turned_values = s.turned_values; operator_starts = s.operator_starts; operator_columns = s.operator_columns; operator_values = s.operator_values; scaling = s.scaling }
put s (permittivities_at i) v = record { ends = s.ends; permittivities = set s.permittivities i v; forward_starts = s.forward_starts; forward_columns = s.forward_columns; forward_values = s.forward_values; turned_starts = s.turned_starts; turned_columns = s.turned_columns; turned_values = s.turned_values; operator_starts = s.operator_starts; operator_columns = s.operator_columns; operator_values = s.operator_values; scaling = s.scaling }
put s (forward_starts_at i) v = record { ends = s.ends; permittivities = s.permittivities; forward_starts = set s.forward_starts i v; forward_columns = s.forward_columns; forward_values = s.forward_values; turned_starts = s.turned_starts; turned_columns = s.turned_columns; turned_values = s.turned_values; operator_starts = s.operator_starts; operator_columns = s.operator_columns; operator_values = s.operator_values; scaling = s.scaling }
put s (forward_columns_at i) v = record { ends = s.ends; permittivities = s.permittivities; forward_starts = s.forward_starts; forward_columns = set s.forward_columns i v; forward_values = s.forward_values; turned_starts = s.turned_starts; turned_columns = s.turned_columns; turned_values = s.turned_values; operator_starts = s.operator_starts; operator_columns = s.operator_columns; operator_values = s.operator_values; scaling = s.scaling }
put s (forward_values_at i) v = record { ends = s.ends; permittivities = s.permittivities; forward_starts = s.forward_starts; forward_columns = s.forward_columns; forward_values = set s.forward_values i v; turned_starts = s.turned_starts; turned_columns = s.turned_columns; turned_values = s.turned_values; operator_starts = s.operator_starts; operator_columns = s.operator_columns; operator_values = s.operator_values; scaling = s.scaling }
put s (turned_starts_at i) v = record { ends = s.ends; permittivities = s.permittivities; forward_starts = s.forward_starts; forward_columns = s.forward_columns; forward_values = s.forward_values; turned_starts = set s.turned_starts i v; turned_columns = s.turned_columns; turned_values = s.turned_values; operator_starts = s.operator_starts; operator_columns = s.operator_columns; operator_values = s.operator_values; scaling = s.scaling }
put s (turned_columns_at i) v = record { ends = s.ends; permittivities = s.permittivities; forward_starts = s.forward_starts; forward_columns = s.forward_columns; forward_values = s.forward_values; turned_starts = s.turned_starts; turned_columns = set s.turned_columns i v; turned_values = s.turned_values; operator_starts = s.operator_starts; operator_columns = s.operator_columns; operator_values = s.operator_values; scaling = s.scaling }
put s (turned_values_at i) v = record { ends = s.ends; permittivities = s.permittivities; forward_starts = s.forward_starts; forward_columns = s.forward_columns; forward_values = s.forward_values; turned_starts = s.turned_starts; turned_columns = s.turned_columns; turned_values = set s.turned_values i v; operator_starts = s.operator_starts; operator_columns = s.operator_columns; operator_values = s.operator_values; scaling = s.scaling }
put s (operator_starts_at i) v = record { ends = s.ends; permittivities = s.permittivities; forward_starts = s.forward_starts; forward_columns = s.forward_columns; forward_values = s.forward_values; turned_starts = s.turned_starts; turned_columns = s.turned_columns; turned_values = s.turned_values; operator_starts = set s.operator_starts i v; operator_columns = s.operator_columns; operator_values = s.operator_values; scaling = s.scaling }
put s (operator_columns_at i) v = record { ends = s.ends; permittivities = s.permittivities; forward_starts = s.forward_starts; forward_columns = s.forward_columns; forward_values = s.forward_values; turned_starts = s.turned_starts; turned_columns = s.turned_columns; turned_values = s.turned_values; operator_starts = s.operator_starts; operator_columns = set s.operator_columns i v; operator_values = s.operator_values; scaling = s.scaling }
put s (operator_values_at i) v = record { ends = s.ends; permittivities = s.permittivities; forward_starts = s.forward_starts; forward_columns = s.forward_columns; forward_values = s.forward_values; turned_starts = s.turned_starts; turned_columns = s.turned_columns; turned_values = s.turned_values; operator_starts = s.operator_starts; operator_columns = s.operator_columns; operator_values = set s.operator_values i v; scaling = s.scaling }
put s (scaling_at i) v = record { ends = s.ends; permittivities = s.permittivities; forward_starts = s.forward_starts; forward_columns = s.forward_columns; forward_values = s.forward_values; turned_starts = s.turned_starts; turned_columns = s.turned_columns; turned_values = s.turned_values; operator_starts = s.operator_starts; operator_columns = s.operator_columns; operator_values = s.operator_values; scaling = set s.scaling i v }

abbrev pub Has : Sizes → Place → Type 0
Has h (ends_at i) = i < h.ends
Has h (permittivities_at i) = i < h.permittivities
Has h (forward_starts_at i) = i < h.forward_starts
Has h (forward_columns_at i) = i < h.forward_columns
Has h (forward_values_at i) = i < h.forward_values
Has h (turned_starts_at i) = i < h.turned_starts
Has h (turned_columns_at i) = i < h.turned_columns
Has h (turned_values_at i) = i < h.turned_values
Has h (operator_starts_at i) = i < h.operator_starts
Has h (operator_columns_at i) = i < h.operator_columns
Has h (operator_values_at i) = i < h.operator_values
Has h (scaling_at i) = i < h.scaling

abbrev pub space : Space
space = record { S = Store; P = Place; Val = Val; get = get; put = put; Shape = Sizes; shape = sizes; Has = Has; same? = place_discrete ℕ_discrete }
