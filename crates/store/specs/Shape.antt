-- Where the rows of each part stand (docs/SPECIFICATION.md, 11 and 12): for each part, its words, from the lattice, the choice, and the starts in the lists.
-- Assumes nothing.
use Rattle.std.specs.Prelude.{ℕ, zero, suc, ◌+◌, ◌/◌, ◌%◌, ◌≤◌, ◌<◌, ◌^◌, ◌≡◌, List, length, get_or}
use Rattle.numbers.specs.Lists.{sum_to}
use Rattle.lattice.specs.Lattice.{FullLattice}
use Rattle.operators.specs.LevelLists.{edges_on}
use Rattle.store.specs.FillSteps.{only_count}
use Rattle.store.specs.Layout.{eps_off, averaged_off, scale_off}
use Rattle.store.specs.Parts.{sole_size, part_off, part_count}
use Rattle.store.specs.Phases.{forward_part, turned_part, operator_part}
use Rattle.store.specs.PhaseSteps.{behind_of}
use Rattle.store.specs.declared.Choice.{Choice}
use Rattle.store.specs.Cells.{no_words}
use Rattle.store.specs.declared.change.Marks.{Marks}
use Rattle.store.specs.declared.change.NumberList.{NumberList}
use Rattle.store.specs.declared.change.NumberList.TheVariants.{Permittivities, Forward, Turned, Operator, Scaling}
use Rattle.store.specs.declared.change.Words.{Words}

-- before it is known where their flags begin
abbrev pub words : ℕ → NumberList → ℕ → ℕ → Words
words rows list start number = record { rows = rows; base = 0; list = list; start = start; number = number }

-- ---- where the rows of the transfer from level L + 1 to L stand, and of the operator of level L + 1

abbrev pub marks_at : FullLattice → Choice → ℕ → ℕ → Marks
marks_at l ch m L =
    record {
      eps = eps_off l (suc L);
      averaged = averaged_off l m L;
      scale = scale_off l L;
      forward = forward_part l L;
      turned = turned_part l L;
      operator = operator_part l ch m (suc L);
    }

-- those behind `fine` and `coarse` edges
abbrev pub next_marks : Marks → ℕ → ℕ → List ℕ → List ℕ → List ℕ → Marks
next_marks k fine coarse fs ts os =
    record {
      eps = k.eps + coarse;
      averaged = k.averaged + coarse;
      scale = k.scale + (fine + coarse);
      forward = behind_of k.forward fine fs;
      turned = behind_of k.turned coarse ts;
      operator = behind_of k.operator coarse os;
    }

pub record MarksFit (k : Marks) (fine coarse : ℕ) (fs ts os : List ℕ) : Type 0 where
  pub eps_low : k.eps + coarse ≤ 2 ^ 40
  pub averaged_low : k.averaged + coarse ≤ 2 ^ 40
  pub scale_low : k.scale + (fine + coarse) ≤ 2 ^ 40
  pub forward_fits : (k.forward.s + fine < length fs) × (k.forward.k + get_or fs (k.forward.s + fine) 0 ≤ 2 ^ 40)
  pub turned_fits : (k.turned.s + coarse < length ts) × (k.turned.k + get_or ts (k.turned.s + coarse) 0 ≤ 2 ^ 40)
  pub operator_fits : (k.operator.s + coarse < length os) × (k.operator.k + get_or os (k.operator.s + coarse) 0 ≤ 2 ^ 40)

-- ---- the words of a part

-- of kind i of a transfer
unfoldable pub words_by : Choice → ℕ → ℕ → Marks → ℕ → Words
words_by ch fine coarse k zero = words coarse Permittivities 0 k.eps
words_by ch fine coarse k (suc zero) = words (only_count ch coarse) Permittivities 0 k.averaged
words_by ch fine coarse k (suc (suc zero)) = words fine Forward k.forward.s k.forward.k
words_by ch fine coarse k (suc (suc (suc zero))) = words coarse Turned k.turned.s k.turned.k
words_by ch fine coarse k (suc (suc (suc (suc zero)))) = words (only_count ch fine) Scaling 0 k.scale
words_by ch fine coarse k (suc (suc (suc (suc (suc zero))))) = words (only_count ch coarse) Scaling 0 (k.scale + fine)
words_by ch fine coarse k (suc (suc (suc (suc (suc (suc i)))))) = words coarse Operator k.operator.s k.operator.k

unfoldable pub part_words : FullLattice → Choice → ℕ → ℕ → Words
part_words l ch m zero = words (sole_size l m) Operator 0 0
part_words l ch m (suc p) = words_by ch (edges_on l (p / 7)) (edges_on l (suc (p / 7))) (marks_at l ch m (p / 7)) (p % 7)

-- ---- in a list

-- those of part p, whose flags begin at base
pub record PartAt (shape : List Words) (p base : ℕ) (w : Words) : Type 0 where
  pub rows_at : (get_or shape p no_words).rows ≡ w.rows
  pub base_at : (get_or shape p no_words).base ≡ base
  pub list_at : (get_or shape p no_words).list ≡ w.list
  pub start_at : (get_or shape p no_words).start ≡ w.start
  pub number_at_lem : (get_or shape p no_words).number ≡ w.number

-- they have been set, and nothing before them
pub record PartSet (xs : List Words) (p base : ℕ) (w : Words) (ys : List Words) : Type 0 where
  pub long : length ys ≡ length xs
  pub before : (j : ℕ) → j < p → get_or ys j no_words ≡ get_or xs j no_words
  pub here : PartAt ys p base w

-- those of n parts from part p on, whose flags begin at base and end at r
pub record LevelSet (ws : ℕ → Words) (p base : ℕ) (xs : List Words) (n r : ℕ) (ys : List Words) : Type 0 where
  pub long : length ys ≡ length xs
  pub before : (j : ℕ) → j < p → get_or ys j no_words ≡ get_or xs j no_words
  pub each : (i : ℕ) → i < n → PartAt ys (p + i) (base + sum_to (λ j. (ws j).rows) i) (ws i)
  pub next : r ≡ base + sum_to (λ j. (ws j).rows) n

-- those of all parts
pub record ShapeOf (l : FullLattice) (ch : Choice) (m : ℕ) (shape : List Words) : Type 0 where
  pub long : length shape ≡ 78
  pub each : (p : ℕ) → p < part_count m → PartAt shape p (part_off l ch m p) (part_words l ch m p)
