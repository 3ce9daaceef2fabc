-- Each row of the table of worked cases (specs/Cases.antt) comes out as worked by hand: those of the layers below, and two whole setups.
-- Assumes nothing.
use Prim.Native.Nat.{ℕ, suc}
use mathlib.Core.Path.{◌≡◌, refl, sym, ◌∙◌}
use mathlib.Core.List.{List, map, ◌++◌}
use lib.Ieee.{Float, add, sub, mul, div, neg, le, lt, eq, of_bits, of_int}
use Rattle.std.proofs.lemmas.List.{map-append}
use Rattle.lattice.specs.Cases.{Outcome, Case}
use Rattle.operators.specs.Cases as Below
use Rattle.operators.proofs.Cases as BelowLaws
use Rattle.store.specs.Store.{Store, sizes, zeroed}
use Rattle.store.specs.declared.Choice.TheVariants.{Galerkin, Rediscretized}
use Rattle.numbers.specs.Collect.{at_first, collected, from_zero, inserted}
use Rattle.numbers.specs.Complex.{conjugate, difference, finite, finite_double, inverse, is_zero, negation, one_minus, one_number, over_real, product, quotient, real_over, real_times, squares, sum, zero_number}
use Rattle.numbers.specs.Lists.{all_finite, before, contains, each, laid_by, repeats, rows, some_repeats, start_of, starts_of, sum_to, summed, tabulate}
use Rattle.numbers.specs.Places.{number_at, set_number}
use Rattle.numbers.specs.Terms.{columns_of, numbers_of}
use Rattle.numbers.specs.Transpose.{turned_from, turned_row}
use Rattle.lattice.specs.Check.{accepted, bad_cells, bad_length, bad_number, check_all, check_entries, check_grid, check_lengths, check_of, check_scalars, first_bad}
use Rattle.lattice.specs.Curls.{ahead, behind, curl_e, curl_e_at, curl_h, curl_h_at, divergence_of, free_nodes, gradient_at, gradient_of, half_weight, node_weight, term_here}
use Rattle.lattice.specs.Grid.{at_of, axis3, cells_of, index_of, last_axis, moved_to, n_of, next_axis, place_on, step_of, unknowns_of, with_component}
use Rattle.lattice.specs.Lattice.{edges_of, halves_at, lattice_of, nodes_at, stretch_at}
use Rattle.lattice.specs.Levels.{cells_at, depth_from, depth_of, edges_at, line_at, same, stops, target}
use Rattle.lattice.specs.Line.{coarser_ends, finest_ends, joined, joins, joins_by, nodes_of, place_of, skips}
use Rattle.lattice.specs.Neighbours.{fixed_at, is_fixed, is_node_fixed, neighbour_of, on_wall, shifted}
use Rattle.lattice.specs.Rows.{curl_curl, face_term, face_terms, free_columns, free_of, grad_div, mean, node_eps, node_term, node_terms, row_into}
use Rattle.lattice.specs.Stretched.{across_map, across_stretch, along_map, along_stretch, map_at, map_entry, map_list}
use Rattle.weights.specs.CoarseEps.{cell_edges, coarse_eps, edge_along, edges_along, eps_reads, harmonic, inverted, on_fine}
use Rattle.weights.specs.Interpolate.{high_coordinate, high_side, interpolated, low_coordinate, low_side, meets, outside, ratio, ratio_at, rule_by, rule_of, taken_places, two_sides, up_to, value_at, value_places, whole}
use Rattle.weights.specs.Prolongation.{axis_places, axis_terms, column_at, edge_at, is_along, nest, nest_y, nest_z, prolongation_row, read_edge, read_place, term_at, terms_x, terms_y, terms_z, weight_at, weight_columns}
use Rattle.weights.specs.TwoLevels.{coarse_cells, coarse_grid, coarse_lattice, coarse_line, fine_cells, fine_grid, fine_lattice, fine_line, grid_with, node_on as node_on_two_levels, on_grid, two_at}
use Rattle.operators.specs.Averaged.{around, averaged_at, averaged_eps, cell_count, cell_start, hat_above, hat_place, hat_weight, hats_around, hats_on, line_edges, line_mean, lower_hats, mean_of, node_before, node_in, nothing, upper_hats, walk, weigh_all, weigh_line, weigh_lines, wrapped_place}
use Rattle.operators.specs.Galerkin.{fine_terms, forward_term, forward_terms, galerkin_row, galerkin_terms, with_diagonal}
use Rattle.operators.specs.Levels.{averaged_on, eps_at, forward_at, galerkin_at, grid_at, inverse_shares_at, lattice_at, line_on, rediscretized_at, turned_at, volumes_at}
use Rattle.operators.specs.Rediscretized.{cell_length, cells_on, centre, coarse_step, half_on, half_stretch, mapped, node_on, node_stretch, node_width, rediscretized_grid, rediscretized_lattice, unit_of}
use Rattle.operators.specs.Stencil.{shift_number, shift_terms, stencil_row}
use Rattle.operators.specs.Volumes.{inverse_of, inverse_share, share_finite, share_of, shares_finite, side_of, volume_at, volume_of, weighted}
use Rattle.store.specs.Cases.{ends_left, forward_columns_left, forward_starts_left, forward_values_left, four_cells, galerkin_columns_left, galerkin_left, galerkin_lent, galerkin_rows, galerkin_values_left, ones, reals, rediscretized_columns_left, rediscretized_left, rediscretized_lent, rediscretized_rows, rediscretized_values_left, scaling_left, setting, seven_numbers, sevens, table, turned_columns_left, turned_starts_left, turned_values_left}
use Rattle.store.specs.Layout.{forward_cols, operator_cols, turned_cols}
use Rattle.store.specs.Setup.{Input, Result, all_to, filled, full_of, level_fine, result_of, setup_of, short_of, structure_of, transfer_fine, transfers_of, unless}

-- all that a setup computes with: to open it opens them
unfoldable computing : Unit {0}
unfolding at_first collected from_zero inserted conjugate difference finite finite_double inverse is_zero negation one_minus one_number over_real product quotient real_over real_times squares sum zero_number all_finite before contains each laid_by repeats rows some_repeats start_of starts_of sum_to summed tabulate number_at set_number columns_of numbers_of turned_from turned_row bad_cells bad_length bad_number check_all check_entries check_grid check_lengths check_of check_scalars first_bad ahead behind curl_e curl_e_at curl_h curl_h_at divergence_of free_nodes gradient_at gradient_of half_weight node_weight term_here at_of axis3 cells_of index_of last_axis moved_to n_of next_axis place_on step_of unknowns_of with_component edges_of halves_at lattice_of nodes_at stretch_at cells_at depth_from depth_of edges_at line_at same stops target coarser_ends finest_ends joined joins joins_by nodes_of place_of skips fixed_at is_fixed is_node_fixed neighbour_of on_wall shifted curl_curl face_term face_terms free_columns free_of grad_div mean node_eps node_term node_terms row_into across_map across_stretch along_map along_stretch map_at map_entry map_list cell_edges coarse_eps edge_along edges_along eps_reads harmonic inverted on_fine high_coordinate high_side interpolated low_coordinate low_side meets outside ratio ratio_at rule_by rule_of taken_places two_sides up_to value_at value_places whole axis_places axis_terms column_at edge_at is_along nest nest_y nest_z prolongation_row read_edge read_place term_at terms_x terms_y terms_z weight_at weight_columns coarse_cells coarse_grid coarse_lattice coarse_line fine_cells fine_grid fine_lattice fine_line grid_with node_on_two_levels on_grid two_at around averaged_at averaged_eps cell_count cell_start hat_above hat_place hat_weight hats_around hats_on line_edges line_mean lower_hats mean_of node_before node_in nothing upper_hats walk weigh_all weigh_line weigh_lines wrapped_place fine_terms forward_term forward_terms galerkin_row galerkin_terms with_diagonal averaged_on eps_at forward_at galerkin_at grid_at inverse_shares_at lattice_at line_on rediscretized_at turned_at volumes_at cell_length cells_on centre coarse_step half_on half_stretch mapped node_on node_stretch node_width rediscretized_grid rediscretized_lattice unit_of shift_number shift_terms stencil_row inverse_of inverse_share share_finite share_of shares_finite side_of volume_at volume_of weighted ends_left forward_columns_left forward_starts_left forward_values_left four_cells galerkin_columns_left galerkin_left galerkin_lent galerkin_values_left ones reals rediscretized_columns_left rediscretized_left rediscretized_lent rediscretized_values_left scaling_left seven_numbers sevens turned_columns_left turned_starts_left turned_values_left forward_cols operator_cols turned_cols all_to filled level_fine setup_of short_of transfer_fine add sub mul div neg le lt eq of_bits of_int
computing = tt

-- ---- the rows, one behind another

abbrev computed : Case → Outcome
computed c = c.computed

abbrev expected : Case → Outcome
expected c = c.expected

abbrev Right : List Case → Type 0
Right cs = map computed cs ≡ map expected cs

both : (cs ds : List Case) → Right cs → Right ds → Right (cs ++ ds)
both cs ds p q = map-append computed cs ds ∙ (λ i. p i ++ q i) ∙ sym (map-append expected cs ds)

rows_right : (c e : Result) → c ≡ e → Right (setting c e)
unfolding setting
rows_right c e p = rw p refl

-- ---- the setups

module _ (i : Input) (eps : List Float) (s : Store) where
  abbrev Checks : ℕ → Type 0
  Checks n = check_of i.lattice i.xn i.xh i.yn i.yh i.zn i.zh eps ≡ accepted n

  abbrev Fits : ℕ → Type 0
  Fits n = structure_of i (sizes s) ≡ accepted n

  abbrev IsFine : ℕ → Type 0
  IsFine n = all_to 7 (level_fine (full_of i) i.choice (transfers_of i) (number_at eps)) (suc (transfers_of i)) ≡ accepted n

  abbrev laid_out : Result
  laid_out = result_of (accepted (suc (transfers_of i))) (filled (full_of i) i.choice (transfers_of i) (number_at eps) s)

  -- a setup that nothing refuses
  taken : Checks 0 → Fits 0 → IsFine 0 → setup_of i eps s ≡ laid_out
  unfolding setup_of
  taken p q r = λ k. unless (p k) s (unless (q k) (zeroed s) (unless (r k) (zeroed s) laid_out))

galerkin_checks : Checks (four_cells Galerkin) (ones 12) galerkin_lent 0
unfolding computing
galerkin_checks = refl

galerkin_fits : Fits (four_cells Galerkin) (ones 12) galerkin_lent 0
unfolding computing
galerkin_fits = refl

galerkin_fine : IsFine (four_cells Galerkin) (ones 12) galerkin_lent 0
unfolding computing
galerkin_fine = refl

galerkin_left_lem : laid_out (four_cells Galerkin) (ones 12) galerkin_lent ≡ result_of (accepted 2) galerkin_left
unfolding computing
galerkin_left_lem = refl

-- 4, 1, 1 CELLS, GALERKIN: ACCEPTED, WITH TWO LEVELS
pub galerkin_set_up : setup_of (four_cells Galerkin) (ones 12) galerkin_lent ≡ result_of (accepted 2) galerkin_left
galerkin_set_up = taken (four_cells Galerkin) (ones 12) galerkin_lent galerkin_checks galerkin_fits galerkin_fine ∙ galerkin_left_lem

-- AND REDISCRETIZED
pub rediscretized_set_up : setup_of (four_cells Rediscretized) (ones 12) rediscretized_lent ≡ result_of (accepted 2) rediscretized_left
unfolding computing
rediscretized_set_up = refl

-- ---- ALL CASES

galerkin_right : Right galerkin_rows
unfolding galerkin_rows
galerkin_right = rows_right (setup_of (four_cells Galerkin) (ones 12) galerkin_lent) (result_of (accepted 2) galerkin_left) galerkin_set_up

rediscretized_right : Right rediscretized_rows
unfolding rediscretized_rows
rediscretized_right = rows_right (setup_of (four_cells Rediscretized) (ones 12) rediscretized_lent) (result_of (accepted 2) rediscretized_left) rediscretized_set_up

pub all_cases : map (λ (c : Case). c.computed) table ≡ map (λ (c : Case). c.expected) table
unfolding table
all_cases = both Below.table (galerkin_rows ++ rediscretized_rows) BelowLaws.all_cases (both galerkin_rows rediscretized_rows galerkin_right rediscretized_right)
