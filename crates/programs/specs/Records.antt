-- The records of a file (docs/SPECIFICATION.md, 13): a byte of kind, then a body. In turn: 1 grid; for each axis 2 wall or 3 Bloch; 4 stretch and
-- 5 permittivity, a record for each number; 6 choice; any number of 7 change; 255 end.
-- Assumes nothing.
use Rattle.std.specs.Prelude.{ℕ, ◌+◌, ◌*◌, ◌^◌, ◌<◌, ◌≡◌, Bool, false, cond, Option, Some, None, Result, MatchResult, List, [], eqb, leb, ltb, length, take, drop, Float}
use Rattle.lattice.specs.declared.grid.Grid3d.{Grid3d}
use Rattle.lattice.specs.declared.lattice.Lattice.{Lattice}
use Rattle.store.specs.Setup.{Input, input_of, input_on}
use Rattle.programs.specs.Bytes.{word16, double_at}
use Rattle.programs.specs.declared.kinds.Kind.{Kind}
use Rattle.programs.specs.declared.kinds.Kind.TheVariants.{Grid, Wall, Bloch, Stretch, Permittivity, Choice, Change, End}
use Rattle.programs.specs.declared.kinds.NoKind.{NoKind}
use Rattle.programs.specs.declared.records.Seen.{Seen}
use Rattle.programs.specs.declared.records.Stage.{Stage}
use Rattle.programs.specs.declared.records.Stage.TheVariants.{Start, AxisX, AxisY, AxisZ, Numbers, Changes, Over}
use Rattle.lattice.specs.declared.input.Stretches.{Stretches}

-- ---- kinds

-- the byte that stands for a kind
abbrev pub byte_of : Kind → ℕ
byte_of Grid = 1
byte_of Wall = 2
byte_of Bloch = 3
byte_of Stretch = 4
byte_of Permittivity = 5
byte_of Choice = 6
byte_of Change = 7
byte_of End = 255

-- the kind that a byte stands for; else no kind has it
abbrev pub Decodes : ℕ → Result Kind NoKind → Type 0
Decodes b r = MatchResult r (λ k. byte_of k ≡ b) (λ e. (e.0 ≡ b) × ((k : Kind) → byte_of k ≡ b → ⊥))

-- a byte stands for this kind; where there is none, no byte does
abbrev pub has_byte : Option Kind → ℕ → Bool
has_byte None b = false
has_byte (Some k) b = eqb b (byte_of k)

-- the bytes of a body: those of the grid, of the choice, of a change, and of a number; a wall and the end have none
abbrev pub body_size : Kind → ℕ
body_size Grid = 46
body_size Wall = 0
body_size Bloch = 16
body_size Stretch = 16
body_size Permittivity = 16
body_size Choice = 5
body_size Change = 20
body_size End = 0

-- ---- the grid's body: three u16, the cells; then doubles, three steps, k0 and the shift

unfoldable pub grid_of : List ℕ → Grid3d
grid_of b = record { nx = word16 b 0; ny = word16 b 2; nz = word16 b 4; dx = double_at b 6; dy = double_at b 14; dz = double_at b 22 }

unfoldable pub lattice_of : Seen → Lattice
lattice_of s =
    record { grid = grid_of s.grid; x = s.x; y = s.y; z = s.z; k0 = double_at s.grid 30; shift = double_at s.grid 38 }

-- ---- how many numbers follow it: two lists of stretches an axis, and three permittivities a cell

unfoldable pub stretch_count : List ℕ → ℕ
stretch_count b = 2 * (word16 b 0 + word16 b 2 + word16 b 4)

unfoldable pub cell_count : List ℕ → ℕ
cell_count b = word16 b 0 * word16 b 2 * word16 b 4

unfoldable pub edge_count : List ℕ → ℕ
edge_count b = 3 * cell_count b

-- ---- turns

-- among the numbers: a stretch, a permittivity, and behind them the choice
abbrev pub number_of : Seen → Kind
number_of s = cond (ltb s.count (stretch_count s.grid)) Stretch (cond (ltb s.count (stretch_count s.grid + edge_count s.grid)) Permittivity Choice)

-- the kind with a body that is due
abbrev pub due_at : Stage → Seen → Option Kind
due_at Start s = Some Grid
due_at AxisX s = Some Bloch
due_at AxisY s = Some Bloch
due_at AxisZ s = Some Bloch
due_at Numbers s = Some (number_of s)
due_at Changes s = Some Change
due_at Over s = None

abbrev pub due_of : Seen → Option Kind
due_of s = due_at s.stage s

-- the kind without a body that may stand there
abbrev pub bare_of : Stage → Option Kind
bare_of Start = None
bare_of AxisX = Some Wall
bare_of AxisY = Some Wall
bare_of AxisZ = Some Wall
bare_of Numbers = None
bare_of Changes = Some End
bare_of Over = None

-- the bytes of the body that is due; 0 where none is
abbrev pub size_by : Option Kind → ℕ
size_by None = 0
size_by (Some k) = body_size k

abbrev pub size_due : Seen → ℕ
size_due s = size_by (due_of s)

-- where a number is due, few are read
abbrev pub Few : Option Kind → ℕ → Type 0
Few (Some Stretch) count = count < 2 ^ 51
Few (Some Permittivity) count = count < 2 ^ 51
Few k count = Unit {0}

-- ---- the setup's input, from the numbers held: x nodes, x halves, y, z, permittivities, one behind another

-- the n doubles from place `from` on; none where the list does not have them
unfoldable pub cut_of : List Float → ℕ → ℕ → List Float
cut_of xs from n = cond (leb (from + n) (length xs)) (take n (drop from xs)) []

unfoldable pub input_read : Seen → List Float → Input
input_read s held =
    let x = 2 * word16 s.grid 0 in
    let y = 2 * word16 s.grid 2 in
    let z = 2 * word16 s.grid 4 in
    input_of (lattice_of s) (cut_of held 0 x) (cut_of held x x) (cut_of held (2 * x) y) (cut_of held (2 * x + y) y)
    (cut_of held (2 * x + 2 * y) z) (cut_of held (2 * x + 2 * y + z) z) s.choice s.coarsest

-- the input with these stretches
abbrev pub input_with : Seen → Stretches → Input
input_with s l = input_on (lattice_of s) l s.choice s.coarsest

unfoldable pub given_read : Seen → List Float → List Float
given_read s held = cut_of held (2 * stretch_count s.grid) (2 * edge_count s.grid)
