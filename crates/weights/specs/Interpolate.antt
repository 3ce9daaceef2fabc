-- Interpolation along one axis (docs/SPECIFICATION.md, 7): which coarse values a fine place takes (structure), and with which weights (numbers).
-- A value is along the axis or across it (the component's role there). Places are half-steps of the finest grid.
-- Assumes nothing.
use Rattle.std.specs.Prelude.{ℕ, suc, ◌+◌, ◌-◌, Bool, ◌&&◌, ◌||◌, cond, List, [], ◌∷◌, ◌++◌, eqb, leb, length, get_or, pos, Float, Option, Some, None, option_map, option_to_list}
use Rattle.std.specs.Float.{binary64}
use Rattle.std.specs.Float.Ieee.{of_int}
use Rattle.numbers.specs.declared.C64.{C64}
use Rattle.numbers.specs.Complex.{sub_f, zero_f, no_number, one_number, product, quotient, difference, one_minus, inverse}
use Rattle.lattice.specs.declared.lattice.Edges.{Edges}
use Rattle.lattice.specs.declared.lattice.Edges.TheVariants.{Pml, Bloch}
use Rattle.lattice.specs.declared.neighbours.Arrival.{Arrival}
use Rattle.numbers.specs.Lists.{tabulate, before}
use Rattle.lattice.specs.Lattice.{is_wall}
use Rattle.lattice.specs.Line.{place_of}
use Rattle.lattice.specs.Neighbours.{to_place, past_high}
use Rattle.numbers.specs.Terms.{Term}
use Rattle.weights.specs.declared.interpolate.Few.{Few}
use Rattle.weights.specs.declared.interpolate.Share.{Share}
use Rattle.weights.specs.declared.interpolate.Share.TheVariants.{There, Low, High}
use Rattle.weights.specs.declared.interpolate.Rule.{Rule}
use Rattle.weights.specs.declared.interpolate.Rule.TheVariants.{Coincides, Nearest, Between, Dropped}

-- the places of a line's values, in order
unfoldable pub value_at : List ℕ → Bool → ℕ → ℕ
value_at es along m = place_of es m along

unfoldable pub value_places : List ℕ → Bool → List ℕ
value_places es along = tabulate (value_at es along) (length es - 1) 0

-- ---- structure

-- how many coarse values lie at or before place p: the source's m + 1. cs are the coarse values' places
unfoldable pub up_to : List ℕ → ℕ → ℕ
up_to cs p = before (suc p) cs

-- there is one at p
unfoldable pub meets : List ℕ → ℕ → ℕ → Bool
meets cs p h = leb 1 h && eqb (get_or cs (h - 1) 0) p

-- before the first of n values or past the last
unfoldable pub outside : ℕ → ℕ → Bool
outside n h = eqb h 0 || leb n h

-- the rule that gives the weights: a coarse value at the place; on a wall axis outside the coarse values, along it the nearest value, across it
-- the outside neighbour dropped; else between two neighbours
unfoldable pub rule_by : Bool → Bool → ℕ → ℕ → Bool → Rule
rule_by wall along n h met =
    cond met (Coincides (h - 1)) (cond (wall && outside n h) (cond along (Nearest (h - 1)) (Dropped h)) (Between h))

unfoldable pub rule_of : Edges → List ℕ → Bool → ℕ → Rule
rule_of e cs along p = rule_by (is_wall e) along (length cs) (up_to cs p) (meets cs p (up_to cs p))

-- before the first of n values: nothing beyond a wall; on a Bloch axis the last, with the inverse of p
abbrev pub past_first : Edges → ℕ → Option Arrival
past_first Pml n = None
past_first (Bloch p) n = to_place (n - 1) (inverse p)

-- the two neighbours where h values lie before the place, each with its phase: (1, 0) inside, p past the last value
unfoldable pub low_side : Edges → ℕ → ℕ → Option Arrival
low_side e n h = cond (eqb h 0) (past_first e n) (to_place (h - 1) one_number)

unfoldable pub high_side : Edges → ℕ → ℕ → Option Arrival
high_side e n h = cond (leb n h) (past_high e) (to_place h one_number)

abbrev pub side_places : Option Arrival → List ℕ
side_places None = []
side_places (Some s) = s.at ∷ []

abbrev pub rule_places : Edges → ℕ → Rule → List ℕ
rule_places e n (Coincides m) = m ∷ []
rule_places e n (Nearest m) = m ∷ []
rule_places e n (Between h) = side_places (low_side e n h) ++ side_places (high_side e n h)
rule_places e n (Dropped h) = side_places (low_side e n h) ++ side_places (high_side e n h)

-- the coarse values that place p takes, in order
unfoldable pub taken_places : Edges → List ℕ → Bool → ℕ → List ℕ
taken_places e cs along p = rule_places e (length cs) (rule_of e cs along p)

-- ---- numbers

-- a whole number of half-steps as a number
unfoldable pub whole : ℕ → Float
whole n = of_int binary64 (pos n)

-- the coordinate at a place: the map there; on a Bloch axis the place itself
abbrev pub coordinate : Edges → List C64 → ℕ → C64
coordinate Pml x p = get_or x p no_number
coordinate (Bloch phase) x p = record { re = whole p; im = zero_f }

-- that of the low neighbour: before the first value, the last one's place less the period
unfoldable pub low_coordinate : Edges → List C64 → List ℕ → ℕ → ℕ → C64
low_coordinate e x cs period h =
    cond (eqb h 0)
    (record { re = sub_f (whole (get_or cs (length cs - 1) 0)) (whole period); im = zero_f })
    (coordinate e x (get_or cs (h - 1) 0))

-- that of the high one: past the last value, the first one's place and the period
unfoldable pub high_coordinate : Edges → List C64 → List ℕ → ℕ → ℕ → C64
high_coordinate e x cs period h = coordinate e x (cond (leb (length cs) h) (get_or cs 0 0 + period) (get_or cs h 0))

-- how far the place p lies from low to high
unfoldable pub ratio : C64 → C64 → C64 → C64
ratio p low high = quotient (difference p low) (difference high low)

unfoldable pub ratio_at : Edges → List C64 → List ℕ → ℕ → ℕ → ℕ → C64
ratio_at e x cs period p h = ratio (coordinate e x p) (low_coordinate e x cs period h) (high_coordinate e x cs period h)

-- a neighbour's share times its phase; one outside gets nothing, and its share goes to nobody
abbrev pub side_terms : Option Arrival → C64 → List Term
side_terms None w = []
side_terms (Some s) w = record { column = s.at; number = product w s.phase } ∷ []

unfoldable pub two_sides : Option Arrival → Option Arrival → C64 → List Term
two_sides low high t = side_terms low (one_minus t) ++ side_terms high t

abbrev pub rule_terms : Edges → ℕ → C64 → Rule → List Term
rule_terms e n t (Coincides m) = record { column = m; number = one_number } ∷ []
rule_terms e n t (Nearest m) = record { column = m; number = one_number } ∷ []
rule_terms e n t (Between h) = two_sides (low_side e n h) (high_side e n h) t
rule_terms e n t (Dropped h) = two_sides (low_side e n h) (high_side e n h) t

-- place p takes these coarse values with these weights; x is the axis's map, cs are the coarse values' places, and the period is the line's end
unfoldable pub interpolated : Edges → List C64 → List ℕ → ℕ → Bool → ℕ → List Term
interpolated e x cs period along p =
    rule_terms e (length cs) (ratio_at e x cs period p (up_to cs p)) (rule_of e cs along p)

-- ---- the same in one: which values are taken, and with which share

-- a value taken: its place; its weight where the fine place lies t of the way from the low neighbour to the high one; both as a term
abbrev pub share_place : Share → ℕ
share_place (There m) = m
share_place (Low s) = s.at
share_place (High s) = s.at

abbrev pub share_weight : C64 → Share → C64
share_weight t (There m) = one_number
share_weight t (Low s) = product (one_minus t) s.phase
share_weight t (High s) = product t s.phase

abbrev pub share_term : C64 → Share → Term
share_term t s = record { column = share_place s; number = share_weight t s }

abbrev pub few_list : Few → List Share
few_list s = option_to_list s.first ++ option_to_list s.second

abbrev pub side_shares : Option Arrival → Option Arrival → List Share
side_shares low high = option_to_list (option_map Low low) ++ option_to_list (option_map High high)

abbrev pub rule_shares : Edges → ℕ → Rule → List Share
rule_shares e n (Coincides m) = There m ∷ []
rule_shares e n (Nearest m) = There m ∷ []
rule_shares e n (Between h) = side_shares (low_side e n h) (high_side e n h)
rule_shares e n (Dropped h) = side_shares (low_side e n h) (high_side e n h)

-- those that place p takes
unfoldable pub shares_in : Edges → List ℕ → Bool → ℕ → List Share
shares_in e cs along p = rule_shares e (length cs) (rule_of e cs along p)

-- without place 0 where it is fixed
unfoldable pub kept_shares : Bool → List Share → List Share
kept_shares wall [] = []
kept_shares wall (s ∷ ss) = cond (wall && eqb (share_place s) 0) (kept_shares wall ss) (s ∷ kept_shares wall ss)
