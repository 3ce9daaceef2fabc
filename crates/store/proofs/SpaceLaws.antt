-- The store's places are a lawful space: a write is found at its place and changes no other, and a store is what its places hold.
-- Assumes nothing.
use mathlib.Core.Path.{◌≡◌, refl, ap}
use lib.ListN.{length, length-set}
use lib.Seq.{get_or-set_same, get_or-set_other, ext_get_or}
use lib.Ieee.{nan}
use Rattle.store.specs.Space.{Lawful}
use Rattle.store.specs.Store.{Store, Sizes, sizes}
use Rattle.store.specs.Places.{Place, Val, get, put, Has, space, ends_at, permittivities_at, forward_starts_at, forward_columns_at, forward_values_at, turned_starts_at, turned_columns_at, turned_values_at, operator_starts_at, operator_columns_at, operator_values_at, scaling_at}

same : (s : Store) (p : Place) (v : Val p) → Has (sizes s) p → get (put s p v) p ≡ v
unfolding get put
same s (ends_at i) v h = get_or-set_same s.ends i v 0 h
same s (permittivities_at i) v h = get_or-set_same s.permittivities i v nan h
same s (forward_starts_at i) v h = get_or-set_same s.forward_starts i v 0 h
same s (forward_columns_at i) v h = get_or-set_same s.forward_columns i v 0 h
same s (forward_values_at i) v h = get_or-set_same s.forward_values i v nan h
same s (turned_starts_at i) v h = get_or-set_same s.turned_starts i v 0 h
same s (turned_columns_at i) v h = get_or-set_same s.turned_columns i v 0 h
same s (turned_values_at i) v h = get_or-set_same s.turned_values i v nan h
same s (operator_starts_at i) v h = get_or-set_same s.operator_starts i v 0 h
same s (operator_columns_at i) v h = get_or-set_same s.operator_columns i v 0 h
same s (operator_values_at i) v h = get_or-set_same s.operator_values i v nan h
same s (scaling_at i) v h = get_or-set_same s.scaling i v nan h

other : (s : Store) (p q : Place) (v : Val p) → (q ≡ p → ⊥) → get (put s p v) q ≡ get s q
unfolding get put
other s (ends_at i) (ends_at j) v h = get_or-set_other s.ends i j v 0 (λ e. h (ap ends_at e))
other s (ends_at i) (permittivities_at j) v h = refl
other s (ends_at i) (forward_starts_at j) v h = refl
other s (ends_at i) (forward_columns_at j) v h = refl
other s (ends_at i) (forward_values_at j) v h = refl
other s (ends_at i) (turned_starts_at j) v h = refl
other s (ends_at i) (turned_columns_at j) v h = refl
other s (ends_at i) (turned_values_at j) v h = refl
other s (ends_at i) (operator_starts_at j) v h = refl
other s (ends_at i) (operator_columns_at j) v h = refl
other s (ends_at i) (operator_values_at j) v h = refl
other s (ends_at i) (scaling_at j) v h = refl
other s (permittivities_at i) (ends_at j) v h = refl
other s (permittivities_at i) (permittivities_at j) v h = get_or-set_other s.permittivities i j v nan (λ e. h (ap permittivities_at e))
other s (permittivities_at i) (forward_starts_at j) v h = refl
other s (permittivities_at i) (forward_columns_at j) v h = refl
other s (permittivities_at i) (forward_values_at j) v h = refl
other s (permittivities_at i) (turned_starts_at j) v h = refl
other s (permittivities_at i) (turned_columns_at j) v h = refl
other s (permittivities_at i) (turned_values_at j) v h = refl
other s (permittivities_at i) (operator_starts_at j) v h = refl
other s (permittivities_at i) (operator_columns_at j) v h = refl
other s (permittivities_at i) (operator_values_at j) v h = refl
other s (permittivities_at i) (scaling_at j) v h = refl
other s (forward_starts_at i) (ends_at j) v h = refl
other s (forward_starts_at i) (permittivities_at j) v h = refl
other s (forward_starts_at i) (forward_starts_at j) v h = get_or-set_other s.forward_starts i j v 0 (λ e. h (ap forward_starts_at e))
other s (forward_starts_at i) (forward_columns_at j) v h = refl
other s (forward_starts_at i) (forward_values_at j) v h = refl
other s (forward_starts_at i) (turned_starts_at j) v h = refl
other s (forward_starts_at i) (turned_columns_at j) v h = refl
other s (forward_starts_at i) (turned_values_at j) v h = refl
other s (forward_starts_at i) (operator_starts_at j) v h = refl
other s (forward_starts_at i) (operator_columns_at j) v h = refl
other s (forward_starts_at i) (operator_values_at j) v h = refl
other s (forward_starts_at i) (scaling_at j) v h = refl
other s (forward_columns_at i) (ends_at j) v h = refl
other s (forward_columns_at i) (permittivities_at j) v h = refl
other s (forward_columns_at i) (forward_starts_at j) v h = refl
other s (forward_columns_at i) (forward_columns_at j) v h = get_or-set_other s.forward_columns i j v 0 (λ e. h (ap forward_columns_at e))
other s (forward_columns_at i) (forward_values_at j) v h = refl
other s (forward_columns_at i) (turned_starts_at j) v h = refl
other s (forward_columns_at i) (turned_columns_at j) v h = refl
other s (forward_columns_at i) (turned_values_at j) v h = refl
other s (forward_columns_at i) (operator_starts_at j) v h = refl
other s (forward_columns_at i) (operator_columns_at j) v h = refl
other s (forward_columns_at i) (operator_values_at j) v h = refl
other s (forward_columns_at i) (scaling_at j) v h = refl
other s (forward_values_at i) (ends_at j) v h = refl
other s (forward_values_at i) (permittivities_at j) v h = refl
other s (forward_values_at i) (forward_starts_at j) v h = refl
other s (forward_values_at i) (forward_columns_at j) v h = refl
other s (forward_values_at i) (forward_values_at j) v h = get_or-set_other s.forward_values i j v nan (λ e. h (ap forward_values_at e))
other s (forward_values_at i) (turned_starts_at j) v h = refl
other s (forward_values_at i) (turned_columns_at j) v h = refl
other s (forward_values_at i) (turned_values_at j) v h = refl
other s (forward_values_at i) (operator_starts_at j) v h = refl
other s (forward_values_at i) (operator_columns_at j) v h = refl
other s (forward_values_at i) (operator_values_at j) v h = refl
other s (forward_values_at i) (scaling_at j) v h = refl
other s (turned_starts_at i) (ends_at j) v h = refl
other s (turned_starts_at i) (permittivities_at j) v h = refl
other s (turned_starts_at i) (forward_starts_at j) v h = refl
other s (turned_starts_at i) (forward_columns_at j) v h = refl
other s (turned_starts_at i) (forward_values_at j) v h = refl
other s (turned_starts_at i) (turned_starts_at j) v h = get_or-set_other s.turned_starts i j v 0 (λ e. h (ap turned_starts_at e))
other s (turned_starts_at i) (turned_columns_at j) v h = refl
other s (turned_starts_at i) (turned_values_at j) v h = refl
other s (turned_starts_at i) (operator_starts_at j) v h = refl
other s (turned_starts_at i) (operator_columns_at j) v h = refl
other s (turned_starts_at i) (operator_values_at j) v h = refl
other s (turned_starts_at i) (scaling_at j) v h = refl
other s (turned_columns_at i) (ends_at j) v h = refl
other s (turned_columns_at i) (permittivities_at j) v h = refl
other s (turned_columns_at i) (forward_starts_at j) v h = refl
other s (turned_columns_at i) (forward_columns_at j) v h = refl
other s (turned_columns_at i) (forward_values_at j) v h = refl
other s (turned_columns_at i) (turned_starts_at j) v h = refl
other s (turned_columns_at i) (turned_columns_at j) v h = get_or-set_other s.turned_columns i j v 0 (λ e. h (ap turned_columns_at e))
other s (turned_columns_at i) (turned_values_at j) v h = refl
other s (turned_columns_at i) (operator_starts_at j) v h = refl
other s (turned_columns_at i) (operator_columns_at j) v h = refl
other s (turned_columns_at i) (operator_values_at j) v h = refl
other s (turned_columns_at i) (scaling_at j) v h = refl
other s (turned_values_at i) (ends_at j) v h = refl
other s (turned_values_at i) (permittivities_at j) v h = refl
other s (turned_values_at i) (forward_starts_at j) v h = refl
other s (turned_values_at i) (forward_columns_at j) v h = refl
other s (turned_values_at i) (forward_values_at j) v h = refl
other s (turned_values_at i) (turned_starts_at j) v h = refl
other s (turned_values_at i) (turned_columns_at j) v h = refl
other s (turned_values_at i) (turned_values_at j) v h = get_or-set_other s.turned_values i j v nan (λ e. h (ap turned_values_at e))
other s (turned_values_at i) (operator_starts_at j) v h = refl
other s (turned_values_at i) (operator_columns_at j) v h = refl
other s (turned_values_at i) (operator_values_at j) v h = refl
other s (turned_values_at i) (scaling_at j) v h = refl
other s (operator_starts_at i) (ends_at j) v h = refl
other s (operator_starts_at i) (permittivities_at j) v h = refl
other s (operator_starts_at i) (forward_starts_at j) v h = refl
other s (operator_starts_at i) (forward_columns_at j) v h = refl
other s (operator_starts_at i) (forward_values_at j) v h = refl
other s (operator_starts_at i) (turned_starts_at j) v h = refl
other s (operator_starts_at i) (turned_columns_at j) v h = refl
other s (operator_starts_at i) (turned_values_at j) v h = refl
other s (operator_starts_at i) (operator_starts_at j) v h = get_or-set_other s.operator_starts i j v 0 (λ e. h (ap operator_starts_at e))
other s (operator_starts_at i) (operator_columns_at j) v h = refl
other s (operator_starts_at i) (operator_values_at j) v h = refl
other s (operator_starts_at i) (scaling_at j) v h = refl
other s (operator_columns_at i) (ends_at j) v h = refl
other s (operator_columns_at i) (permittivities_at j) v h = refl
other s (operator_columns_at i) (forward_starts_at j) v h = refl
other s (operator_columns_at i) (forward_columns_at j) v h = refl
other s (operator_columns_at i) (forward_values_at j) v h = refl
other s (operator_columns_at i) (turned_starts_at j) v h = refl
other s (operator_columns_at i) (turned_columns_at j) v h = refl
other s (operator_columns_at i) (turned_values_at j) v h = refl
other s (operator_columns_at i) (operator_starts_at j) v h = refl
other s (operator_columns_at i) (operator_columns_at j) v h = get_or-set_other s.operator_columns i j v 0 (λ e. h (ap operator_columns_at e))
other s (operator_columns_at i) (operator_values_at j) v h = refl
other s (operator_columns_at i) (scaling_at j) v h = refl
other s (operator_values_at i) (ends_at j) v h = refl
other s (operator_values_at i) (permittivities_at j) v h = refl
other s (operator_values_at i) (forward_starts_at j) v h = refl
other s (operator_values_at i) (forward_columns_at j) v h = refl
other s (operator_values_at i) (forward_values_at j) v h = refl
other s (operator_values_at i) (turned_starts_at j) v h = refl
other s (operator_values_at i) (turned_columns_at j) v h = refl
other s (operator_values_at i) (turned_values_at j) v h = refl
other s (operator_values_at i) (operator_starts_at j) v h = refl
other s (operator_values_at i) (operator_columns_at j) v h = refl
other s (operator_values_at i) (operator_values_at j) v h = get_or-set_other s.operator_values i j v nan (λ e. h (ap operator_values_at e))
other s (operator_values_at i) (scaling_at j) v h = refl
other s (scaling_at i) (ends_at j) v h = refl
other s (scaling_at i) (permittivities_at j) v h = refl
other s (scaling_at i) (forward_starts_at j) v h = refl
other s (scaling_at i) (forward_columns_at j) v h = refl
other s (scaling_at i) (forward_values_at j) v h = refl
other s (scaling_at i) (turned_starts_at j) v h = refl
other s (scaling_at i) (turned_columns_at j) v h = refl
other s (scaling_at i) (turned_values_at j) v h = refl
other s (scaling_at i) (operator_starts_at j) v h = refl
other s (scaling_at i) (operator_columns_at j) v h = refl
other s (scaling_at i) (operator_values_at j) v h = refl
other s (scaling_at i) (scaling_at j) v h = get_or-set_other s.scaling i j v nan (λ e. h (ap scaling_at e))

keeps : (s : Store) (p : Place) (v : Val p) → sizes (put s p v) ≡ sizes s
unfolding put
keeps s (ends_at i) v = λ t. record { ends = length-set s.ends i v t; permittivities = length s.permittivities; forward_starts = length s.forward_starts; forward_columns = length s.forward_columns; forward_values = length s.forward_values; turned_starts = length s.turned_starts; turned_columns = length s.turned_columns; turned_values = length s.turned_values; operator_starts = length s.operator_starts; operator_columns = length s.operator_columns; operator_values = length s.operator_values; scaling = length s.scaling }
keeps s (permittivities_at i) v = λ t. record { ends = length s.ends; permittivities = length-set s.permittivities i v t; forward_starts = length s.forward_starts; forward_columns = length s.forward_columns; forward_values = length s.forward_values; turned_starts = length s.turned_starts; turned_columns = length s.turned_columns; turned_values = length s.turned_values; operator_starts = length s.operator_starts; operator_columns = length s.operator_columns; operator_values = length s.operator_values; scaling = length s.scaling }
keeps s (forward_starts_at i) v = λ t. record { ends = length s.ends; permittivities = length s.permittivities; forward_starts = length-set s.forward_starts i v t; forward_columns = length s.forward_columns; forward_values = length s.forward_values; turned_starts = length s.turned_starts; turned_columns = length s.turned_columns; turned_values = length s.turned_values; operator_starts = length s.operator_starts; operator_columns = length s.operator_columns; operator_values = length s.operator_values; scaling = length s.scaling }
keeps s (forward_columns_at i) v = λ t. record { ends = length s.ends; permittivities = length s.permittivities; forward_starts = length s.forward_starts; forward_columns = length-set s.forward_columns i v t; forward_values = length s.forward_values; turned_starts = length s.turned_starts; turned_columns = length s.turned_columns; turned_values = length s.turned_values; operator_starts = length s.operator_starts; operator_columns = length s.operator_columns; operator_values = length s.operator_values; scaling = length s.scaling }
keeps s (forward_values_at i) v = λ t. record { ends = length s.ends; permittivities = length s.permittivities; forward_starts = length s.forward_starts; forward_columns = length s.forward_columns; forward_values = length-set s.forward_values i v t; turned_starts = length s.turned_starts; turned_columns = length s.turned_columns; turned_values = length s.turned_values; operator_starts = length s.operator_starts; operator_columns = length s.operator_columns; operator_values = length s.operator_values; scaling = length s.scaling }
keeps s (turned_starts_at i) v = λ t. record { ends = length s.ends; permittivities = length s.permittivities; forward_starts = length s.forward_starts; forward_columns = length s.forward_columns; forward_values = length s.forward_values; turned_starts = length-set s.turned_starts i v t; turned_columns = length s.turned_columns; turned_values = length s.turned_values; operator_starts = length s.operator_starts; operator_columns = length s.operator_columns; operator_values = length s.operator_values; scaling = length s.scaling }
keeps s (turned_columns_at i) v = λ t. record { ends = length s.ends; permittivities = length s.permittivities; forward_starts = length s.forward_starts; forward_columns = length s.forward_columns; forward_values = length s.forward_values; turned_starts = length s.turned_starts; turned_columns = length-set s.turned_columns i v t; turned_values = length s.turned_values; operator_starts = length s.operator_starts; operator_columns = length s.operator_columns; operator_values = length s.operator_values; scaling = length s.scaling }
keeps s (turned_values_at i) v = λ t. record { ends = length s.ends; permittivities = length s.permittivities; forward_starts = length s.forward_starts; forward_columns = length s.forward_columns; forward_values = length s.forward_values; turned_starts = length s.turned_starts; turned_columns = length s.turned_columns; turned_values = length-set s.turned_values i v t; operator_starts = length s.operator_starts; operator_columns = length s.operator_columns; operator_values = length s.operator_values; scaling = length s.scaling }
keeps s (operator_starts_at i) v = λ t. record { ends = length s.ends; permittivities = length s.permittivities; forward_starts = length s.forward_starts; forward_columns = length s.forward_columns; forward_values = length s.forward_values; turned_starts = length s.turned_starts; turned_columns = length s.turned_columns; turned_values = length s.turned_values; operator_starts = length-set s.operator_starts i v t; operator_columns = length s.operator_columns; operator_values = length s.operator_values; scaling = length s.scaling }
keeps s (operator_columns_at i) v = λ t. record { ends = length s.ends; permittivities = length s.permittivities; forward_starts = length s.forward_starts; forward_columns = length s.forward_columns; forward_values = length s.forward_values; turned_starts = length s.turned_starts; turned_columns = length s.turned_columns; turned_values = length s.turned_values; operator_starts = length s.operator_starts; operator_columns = length-set s.operator_columns i v t; operator_values = length s.operator_values; scaling = length s.scaling }
keeps s (operator_values_at i) v = λ t. record { ends = length s.ends; permittivities = length s.permittivities; forward_starts = length s.forward_starts; forward_columns = length s.forward_columns; forward_values = length s.forward_values; turned_starts = length s.turned_starts; turned_columns = length s.turned_columns; turned_values = length s.turned_values; operator_starts = length s.operator_starts; operator_columns = length s.operator_columns; operator_values = length-set s.operator_values i v t; scaling = length s.scaling }
keeps s (scaling_at i) v = λ t. record { ends = length s.ends; permittivities = length s.permittivities; forward_starts = length s.forward_starts; forward_columns = length s.forward_columns; forward_values = length s.forward_values; turned_starts = length s.turned_starts; turned_columns = length s.turned_columns; turned_values = length s.turned_values; operator_starts = length s.operator_starts; operator_columns = length s.operator_columns; operator_values = length s.operator_values; scaling = length-set s.scaling i v t }

ext : (s t : Store) → sizes s ≡ sizes t → ((p : Place) → Has (sizes s) p → get s p ≡ get t p) → s ≡ t
unfolding get
ext s t e h =
    let e_ends = ext_get_or 0 s.ends t.ends (ap (λ (z : Sizes). z.ends) e) (λ i l. h (ends_at i) l) in
    let e_permittivities = ext_get_or nan s.permittivities t.permittivities (ap (λ (z : Sizes). z.permittivities) e) (λ i l. h (permittivities_at i) l) in
    let e_forward_starts = ext_get_or 0 s.forward_starts t.forward_starts (ap (λ (z : Sizes). z.forward_starts) e) (λ i l. h (forward_starts_at i) l) in
    let e_forward_columns = ext_get_or 0 s.forward_columns t.forward_columns (ap (λ (z : Sizes). z.forward_columns) e) (λ i l. h (forward_columns_at i) l) in
    let e_forward_values = ext_get_or nan s.forward_values t.forward_values (ap (λ (z : Sizes). z.forward_values) e) (λ i l. h (forward_values_at i) l) in
    let e_turned_starts = ext_get_or 0 s.turned_starts t.turned_starts (ap (λ (z : Sizes). z.turned_starts) e) (λ i l. h (turned_starts_at i) l) in
    let e_turned_columns = ext_get_or 0 s.turned_columns t.turned_columns (ap (λ (z : Sizes). z.turned_columns) e) (λ i l. h (turned_columns_at i) l) in
    let e_turned_values = ext_get_or nan s.turned_values t.turned_values (ap (λ (z : Sizes). z.turned_values) e) (λ i l. h (turned_values_at i) l) in
    let e_operator_starts = ext_get_or 0 s.operator_starts t.operator_starts (ap (λ (z : Sizes). z.operator_starts) e) (λ i l. h (operator_starts_at i) l) in
    let e_operator_columns = ext_get_or 0 s.operator_columns t.operator_columns (ap (λ (z : Sizes). z.operator_columns) e) (λ i l. h (operator_columns_at i) l) in
    let e_operator_values = ext_get_or nan s.operator_values t.operator_values (ap (λ (z : Sizes). z.operator_values) e) (λ i l. h (operator_values_at i) l) in
    let e_scaling = ext_get_or nan s.scaling t.scaling (ap (λ (z : Sizes). z.scaling) e) (λ i l. h (scaling_at i) l) in
    λ i. record { ends = e_ends i; permittivities = e_permittivities i; forward_starts = e_forward_starts i; forward_columns = e_forward_columns i; forward_values = e_forward_values i; turned_starts = e_turned_starts i; turned_columns = e_turned_columns i; turned_values = e_turned_values i; operator_starts = e_operator_starts i; operator_columns = e_operator_columns i; operator_values = e_operator_values i; scaling = e_scaling i }

pub lawful : Lawful space
lawful = record { same = same; other = other; keeps = keeps; ext = ext }
