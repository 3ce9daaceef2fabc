-- Each row of the table of worked cases (specs/Cases.antt) comes out as worked by hand: all starred cases, those of the layers below included.
-- Assumes nothing.
use mathlib.Core.Path.{◌≡◌, refl}
use mathlib.Core.List.{map}
use lib.Ieee.{add, sub, mul, div, neg, le, of_bits, of_int}
use Rattle.numbers.specs.Complex.{zero_number, one_number, sum, difference, product, quotient, real_over, real_times, squares, one_minus, inverse}
use Rattle.numbers.specs.Lists.{tabulate, before, summed}
use Rattle.lattice.specs.Stretched.{map_at, map_entry, map_list}
use Rattle.lattice.specs.Line.{finest_ends, joins_by, joins, skips, joined, coarser_ends, place_of, nodes_of}
use Rattle.lattice.specs.Levels.{target}
use Rattle.numbers.specs.Terms.{columns_of}
use Rattle.lattice.specs.Cases as Lines
use Rattle.lattice.specs.Cases.{Case, joining}
use Rattle.weights.specs.Interpolate.{value_at, value_places, up_to, meets, outside, rule_by, rule_of, low_side, high_side, whole, low_coordinate, high_coordinate, ratio, ratio_at, two_sides, interpolated}
use Rattle.weights.specs.CoarseEps.{inverted, harmonic}
use Rattle.weights.specs.Cases as Below
use Rattle.weights.specs.Cases.{parts_of, taking, two_and_four, mean_of}
use Rattle.operators.specs.Averaged.{hat_weight, wrapped_place, walk, node_in, hat_place, node_before, lower_hats, hat_above, upper_hats, around, hat_nodes, hat_weights}
use Rattle.operators.specs.Cases.{hatting, table}

pub all_cases : map (λ (c : Case). c.computed) table ≡ map (λ (c : Case). c.expected) table
unfolding table hatting Below.table Lines.table joining taking parts_of two_and_four mean_of hat_weight wrapped_place walk node_in hat_place node_before lower_hats hat_above upper_hats around hat_nodes hat_weights nodes_of tabulate map_at map_entry map_list finest_ends joins_by joins skips joined coarser_ends target place_of before columns_of summed value_at value_places up_to meets outside rule_by rule_of low_side high_side whole low_coordinate high_coordinate ratio ratio_at two_sides interpolated inverted harmonic zero_number one_number sum difference product quotient real_over real_times squares one_minus inverse add sub mul div neg le of_bits of_int
all_cases = refl
