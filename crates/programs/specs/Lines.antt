-- What the listing says of a level (docs/SPECIFICATION.md, 13): the three cell counts and the forward weights to the next level, 0 at the last.
-- Assumes nothing.
use Rattle.std.specs.Prelude.{ℕ, ◌-◌, ◌*◌, false, cond, List, leb, Float, Some, None}
use Rattle.lattice.specs.Check.{is_sound}
use Rattle.store.specs.Setup.{Input, full_of, transfers_of}
use Rattle.store.specs.Needed.{no_cells, cells_of, needed_verdict}
use Rattle.store.specs.Handed.{Span, cells_in, weight_terms}
use Rattle.store.specs.declared.handed.Cells.{Cells}
use Rattle.programs.specs.Records.{input_read}
use Rattle.programs.specs.declared.lines.LevelLine.{LevelLine}
use Rattle.programs.specs.declared.records.Seen.{Seen}

-- the cells of the levels of an input, none where it is refused
abbrev pub cells_by : Input → Cells
cells_by i = cond (is_sound (needed_verdict i)) (cells_of (full_of i) (transfers_of i)) no_cells

-- those of the input that was read
unfoldable pub cells_read : Seen → List Float → Cells
cells_read s held = cells_by (input_read s held)

-- the edges of a level: a row of the forward weights for each
unfoldable pub rows_in : ℕ → ℕ → ℕ → ℕ
rows_in x y z = cond (leb x 64) (cond (leb y 64) (cond (leb z 64) (3 * (x * y * z)) 0) 0) 0

-- the terms from the beginning of one row to the end of another
abbrev pub terms_between : Span → Span → ℕ
terms_between (Some (a, b)) (Some (c, d)) = d - a
terms_between (Some s) None = 0
terms_between None t = 0

-- the forward weights to the next level, by the starts, where the list has `room` places: from the first row to the last
unfoldable pub weights_of : Cells → List ℕ → ℕ → ℕ → ℕ
weights_of c ss room L =
    terms_between (weight_terms c false ss room ss room L 0)
    (weight_terms c false ss room ss room L (rows_in (cells_in c L 0) (cells_in c L 1) (cells_in c L 2) - 1))

abbrev pub line_of : Cells → List ℕ → ℕ → ℕ → LevelLine
line_of c ss room L =
    record { level = L; x = cells_in c L 0; y = cells_in c L 1; z = cells_in c L 2; weights = weights_of c ss room L }
