-- The steps of a setup over the record of lists: the fill, and the setup behind the checks of its input.
-- Assumes nothing.
use Rattle.std.specs.Prelude.{ℕ, zero, suc, ◌-◌, ◌<◌, ◌≤◌, Bool, cond, ◌≡◌, List, Option, Some, Ok, Err, Result as Answer}
use Rattle.numbers.specs.declared.C64.{C64}
use Rattle.lattice.specs.Check.{Verdict, accepted, refused, and_then, refusal_of}
use Rattle.lattice.specs.Lattice.{FullLattice}
use Rattle.lattice.specs.Levels.{depth_of, count_of, levels_refused}
use Rattle.store.specs.Store.{Store, Sizes, sizes, zeroed}
use Rattle.store.specs.Setup.{Result, result_of, unless, filled, all_to, names_once, short_of, level_fine}
use Rattle.lattice.specs.declared.line.Line.{Line}
use Rattle.store.specs.Phases.{HasLines, lower_of}
use Rattle.store.specs.declared.Choice.{Choice}
use Rattle.store.specs.declared.setup.Refusal.{Refusal}
use Rattle.store.specs.declared.setup.Refusal.TheVariants.{Input, TooMany, Twice, Short, NotFinite}

-- what a setup's answers mean: the level count, or a refusal's number and place
abbrev pub answer_of : Answer ℕ Refusal → Verdict
answer_of (Ok n) = accepted n
answer_of (Err (Input c)) = refusal_of c
answer_of (Err TooMany) = levels_refused
answer_of (Err (Twice level)) = refused 8 level
answer_of (Err (Short list)) = refused 6 list
answer_of (Err (NotFinite level)) = refused 7 level

-- ---- the fill: all lists, and 1 + the first level that has a number that is not finite, 0 where there is none

pub record Filling : Type 0 where
  pub bad : ℕ
  pub store : Store

abbrev pub filling : ℕ → Store → Filling
filling n s = record { bad = n; store = s }

abbrev pub code_of : Verdict → ℕ
code_of (accepted n) = 0
code_of (refused number place) = suc place

-- of a sole level; and of m transfers, from the first coarse levels of the phases
abbrev pub sole_code : Bool → ℕ
sole_code ok = cond ok 0 1

-- 1 + a coarse level, 0 being none
abbrev pub after_level : ℕ → ℕ
after_level zero = 0
after_level (suc k) = suc (suc k)

abbrev pub fill_code : ℕ → ℕ → ℕ → ℕ → ℕ
fill_code zero a b c = b
fill_code (suc m) a b c = after_level (lower_of (lower_of a b) c)

unfoldable pub fill_of : FullLattice → Choice → ℕ → (ℕ → C64) → Store → Filling
fill_of l ch m f b = filling (code_of (all_to 7 (level_fine l ch m f) (suc m))) (filled l ch m f b)

-- the lines of as many levels as the level loop found
pub record LinesFound (l : FullLattice) (depth : Option ℕ) (lines : List Line) : Type 0 where
  pub held : (n : ℕ) → depth ≡ Some n → (0 < n) × (n ≤ 12) × HasLines l (n - 1) lines

-- ---- behind the checks: refusals 5, 8 and 6, by structure, then the fill with refusal 7

abbrev pub m_of : FullLattice → ℕ → ℕ
m_of l coarsest = count_of (depth_of l coarsest) - 1

-- 5 to 6 behind the verdict d of the level loop: the level count where nothing is refused
unfoldable pub structure_by : FullLattice → Choice → Verdict → Sizes → Verdict
structure_by l ch d h =
    and_then (and_then d (all_to 8 (names_once l) (count_of d - 1))) (and_then (short_of l ch (count_of d - 1) h) (accepted (suc (count_of d - 1))))

unfoldable pub settled_of : FullLattice → Choice → ℕ → (ℕ → C64) → Store → Result
settled_of l ch coarsest f s =
    unless (and_then (and_then (depth_of l coarsest) (all_to 8 (names_once l) (m_of l coarsest))) (short_of l ch (m_of l coarsest) (sizes s))) (zeroed s)
    (unless (all_to 7 (level_fine l ch (m_of l coarsest) f) (suc (m_of l coarsest))) (zeroed s)
    (result_of (accepted (suc (m_of l coarsest))) (filled l ch (m_of l coarsest) f s)))
