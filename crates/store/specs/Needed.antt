-- What a setup needs, before it is called (docs/SPECIFICATION.md, 11): the places of each list and the levels' cells.
-- Assumes nothing.
use Rattle.std.specs.Prelude.{ℕ, suc, ◌-◌, ◌/◌, ◌%◌, ◌≡◌, cond, List, ltb, get_or, replicate, Ok, Err, IfOk, Result as Answer}
use Rattle.numbers.specs.Lists.{tabulate}
use Rattle.lattice.specs.declared.line.Line.{Line}
use Rattle.lattice.specs.Check.{Verdict, accepted, and_then, check_stretches}
use Rattle.lattice.specs.Lattice.{FullLattice}
use Rattle.lattice.specs.Levels.{cells_at, count_of}
use Rattle.store.specs.Setup.{Input, transfers_of, levels_of, all_to, names_once}
use Rattle.store.specs.Phases.{blank_line}
use Rattle.store.specs.FillSteps.{needs_of}
use Rattle.store.specs.Steps.{answer_of}
use Rattle.store.specs.declared.Choice.{Choice}
use Rattle.store.specs.declared.handed.Cells.{Cells}
use Rattle.store.specs.declared.needed.Needed.{Needed}
use Rattle.store.specs.declared.setup.Refusal.{Refusal}

-- the cells of no level
abbrev pub no_cells : Cells
no_cells = record { levels = 0; cells = replicate 36 0 }

-- the cells of the levels of m transfers: of axis a on level L at 3 L + a, 0 behind
unfoldable pub cells_on : FullLattice → ℕ → ℕ → ℕ
cells_on l m q = cond (ltb (q / 3) (suc m)) (cells_at l (q % 3) (q / 3)) 0

abbrev pub cells_of : FullLattice → ℕ → Cells
cells_of l m = record { levels = suc m; cells = tabulate (cells_on l m) 36 0 }

-- the cells that a list of lines has
abbrev pub line_cells : List Line → ℕ → ℕ
line_cells lines q = (get_or lines q blank_line).cells

-- what the call answers: the level count, or a refusal's number and place
abbrev pub needed_answer : Answer Needed Refusal → Verdict
needed_answer (Ok n) = accepted n.cells.levels
needed_answer (Err e) = answer_of (Err e)

-- for m transfers, where v is the verdict: needs and cells where nothing is refused
pub record NeededOf (l : FullLattice) (ch : Choice) (m : ℕ) (v : Verdict) (r : Answer Needed Refusal) : Type 0 where
  pub answer_is : needed_answer r ≡ v
  pub needs_are : IfOk r (λ n. n.needs ≡ needs_of l ch m)
  pub cells_are : IfOk r (λ n. n.cells ≡ cells_of l m)

-- refusals 1 to 4 without the permittivities, 5 and 8, or the level count
unfoldable pub needed_verdict : Input → Verdict
needed_verdict i =
    and_then (check_stretches i.lattice i.xn i.xh i.yn i.yh i.zn i.zh) (and_then (levels_of i) (accepted (suc (transfers_of i))))

-- behind the checks, where d is the verdict of the level loop
unfoldable pub levels_verdict : FullLattice → Verdict → Verdict
levels_verdict l d = and_then (and_then d (all_to 8 (names_once l) (count_of d - 1))) (accepted (suc (count_of d - 1)))
