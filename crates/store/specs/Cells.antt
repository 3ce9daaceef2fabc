-- The doubles of the flagged rows of a store (docs/SPECIFICATION.md, 12), one after another: where a walk over the parts finds them, from the flags, a list
-- that says of each part where it stands, and the starts of its rows. And doubles saved from there and put back.
-- Assumes nothing.
use Rattle.std.specs.Prelude.{ℕ, zero, suc, ◌+◌, ◌-◌, ◌*◌, ◌≤◌, ◌<◌, ◌^◌, ◌≡◌, List, [], ◌∷◌, ◌++◌, cond, length, get_or, set, drop, Float}
use Rattle.std.specs.Float.{nan}
use Rattle.numbers.specs.Lists.{tabulate}
use Rattle.store.specs.Parts.{flag_at}
use Rattle.store.specs.Places.{Place}
use Rattle.store.specs.Renewed.{Five, five}
use Rattle.store.specs.Spots.{Kind, permittivity, forwards, turneds, entries, scales, place}
use Rattle.store.specs.declared.change.Cursor.{Cursor}
use Rattle.store.specs.declared.change.NumberList.{NumberList}
use Rattle.store.specs.declared.change.NumberList.TheVariants.{Permittivities, Forward, Turned, Operator, Scaling}
use Rattle.store.specs.declared.change.Words.{Words}
use Rattle.store.specs.declared.change.Saved.{Saved}

-- ---- doubles

-- a double of one of the five lists of numbers
pub record Cell : Type 0 where
  pub kind : Kind
  pub index : ℕ

abbrev pub cell : Kind → ℕ → Cell
cell k j = record { kind = k; index = j }

abbrev pub no_cell : Cell
no_cell = cell permittivity 0

abbrev pub place_of : Cell → Place
place_of d = place d.kind d.index

-- the kind of the numbers of a list
abbrev pub kind_in : NumberList → Kind
kind_in Permittivities = permittivity
kind_in Forward = forwards
kind_in Turned = turneds
kind_in Operator = entries
kind_in Scaling = scales

abbrev pub chosen : Five → Kind → List Float
chosen v permittivity = v.e
chosen v forwards = v.f
chosen v turneds = v.t
chosen v entries = v.o
chosen v scales = v.c

abbrev pub double_at : Five → Cell → Float
double_at v d = get_or (chosen v d.kind) d.index nan

abbrev pub set_double : Five → Kind → ℕ → Float → Five
set_double v permittivity j x = five (set v.e j x) v.f v.t v.o v.c
set_double v forwards j x = five v.e (set v.f j x) v.t v.o v.c
set_double v turneds j x = five v.e v.f (set v.t j x) v.o v.c
set_double v entries j x = five v.e v.f v.t (set v.o j x) v.c
set_double v scales j x = five v.e v.f v.t v.o (set v.c j x)

-- ---- what a walk reads

-- the flags; for each part how many rows, where their flags begin, their list, where their starts begin, and their numbers; and
-- the starts of the forward, the turned and the operator rows
pub record Chart : Type 0 where
  pub flags : List ℕ
  pub shape : List Words
  pub fs : List ℕ
  pub ts : List ℕ
  pub os : List ℕ

abbrev pub chart : List ℕ → List Words → List ℕ → List ℕ → List ℕ → Chart
chart flags shape fs ts os = record { flags = flags; shape = shape; fs = fs; ts = ts; os = os }

abbrev pub no_words : Words
no_words = record { rows = 0; base = 0; list = Permittivities; start = 0; number = 0 }

abbrev pub rows_of : Chart → ℕ → ℕ
rows_of w p = (get_or w.shape p no_words).rows

abbrev pub base_of : Chart → ℕ → ℕ
base_of w p = (get_or w.shape p no_words).base

abbrev pub list_in : Chart → ℕ → NumberList
list_in w p = (get_or w.shape p no_words).list

abbrev pub start_no : Chart → ℕ → ℕ
start_no w p = (get_or w.shape p no_words).start

abbrev pub number_no : Chart → ℕ → ℕ
number_no w p = (get_or w.shape p no_words).number

-- a row of those with starts: its first number and how many there are
abbrev pub from_in : List ℕ → ℕ → ℕ → ℕ → ℕ
from_in ss s k i = k + get_or ss (s + i) 0

abbrev pub count_in : List ℕ → ℕ → ℕ → ℕ
count_in ss s i = get_or ss (s + i + 1) 0 - get_or ss (s + i) 0

-- row i of part p, whose numbers are of a kind: a row of permittivities or scaling is one number
abbrev pub from_by : Chart → Kind → ℕ → ℕ → ℕ
from_by w permittivity p i = number_no w p + i
from_by w forwards p i = from_in w.fs (start_no w p) (number_no w p) i
from_by w turneds p i = from_in w.ts (start_no w p) (number_no w p) i
from_by w entries p i = from_in w.os (start_no w p) (number_no w p) i
from_by w scales p i = number_no w p + i

abbrev pub count_by : Chart → Kind → ℕ → ℕ → ℕ
count_by w permittivity p i = 1
count_by w forwards p i = count_in w.fs (start_no w p) i
count_by w turneds p i = count_in w.ts (start_no w p) i
count_by w entries p i = count_in w.os (start_no w p) i
count_by w scales p i = 1

-- where a walk is that has yet to take all of row i of part p
abbrev pub span_of : Chart → ℕ → ℕ → Cursor
span_of w p i =
    record {
      part = p;
      row = i;
      list = list_in w p;
      at = 2 * from_by w (kind_in (list_in w p)) p i;
      left = 2 * count_by w (kind_in (list_in w p)) p i;
    }

-- nothing of a row that is not flagged
abbrev pub flagged_span : Chart → ℕ → ℕ → Cursor
flagged_span w p i = cond (flag_at w.flags (base_of w p + i)) (span_of w p i) (record { part = p; row = i; list = Permittivities; at = 0; left = 0 })

-- ---- what is left of a walk

-- of the row that a cursor is in
abbrev pub cells_on : Cursor → List Cell
cells_on c = tabulate (cell (kind_in c.list)) c.left c.at

-- of n rows of part p from row i on
unfoldable pub rows_from : Chart → ℕ → ℕ → ℕ → List Cell
rows_from w p i zero = []
rows_from w p i (suc n) = cells_on (flagged_span w p i) ++ rows_from w p (suc i) n

-- of n parts from part p on, of which the first is taken from row i on
unfoldable pub rest_from : Chart → ℕ → ℕ → ℕ → List Cell
rest_from w zero p i = []
rest_from w (suc n) p i = rows_from w p i (rows_of w p - i) ++ rest_from w n (suc p) 0

-- of `parts` parts from a cursor on
unfoldable pub rest_of : Chart → ℕ → Cursor → List Cell
rest_of w parts c = cells_on c ++ rest_from w (parts - c.part) c.part (suc c.row)

-- ---- what a walk needs

pub record StartsFit (ss : List ℕ) (s k i : ℕ) : Type 0 where
  pub there : s + i + 1 < length ss
  pub rising : get_or ss (s + i) 0 ≤ get_or ss (s + i + 1) 0
  pub low : k + get_or ss (s + i + 1) 0 ≤ 2 ^ 40

abbrev pub SpanFits : Chart → Kind → ℕ → ℕ → Type 0
SpanFits w permittivity p i = number_no w p + i ≤ 2 ^ 40
SpanFits w forwards p i = StartsFit w.fs (start_no w p) (number_no w p) i
SpanFits w turneds p i = StartsFit w.ts (start_no w p) (number_no w p) i
SpanFits w entries p i = StartsFit w.os (start_no w p) (number_no w p) i
SpanFits w scales p i = number_no w p + i ≤ 2 ^ 40

-- every look of a walk is within the lists, and every sum small
pub record ChartFits (w : Chart) (parts : ℕ) : Type 0 where
  pub few : parts ≤ 78
  pub long : parts ≤ length w.shape
  pub rows_few : (p : ℕ) → p < parts → rows_of w p ≤ 2 ^ 32
  pub bases_few : (p : ℕ) → p < parts → base_of w p ≤ 2 ^ 32
  pub flags_there : (p : ℕ) → p < parts → base_of w p + rows_of w p ≤ 64 * length w.flags
  pub spans : (p i : ℕ) → p < parts → i < rows_of w p → SpanFits w (kind_in (list_in w p)) p i

-- the doubles of every row are there
pub record CellsFit (w : Chart) (parts : ℕ) (v : Five) : Type 0 where
  pub there : (p i : ℕ) → p < parts → i < rows_of w p
      → 2 * (from_by w (kind_in (list_in w p)) p i + count_by w (kind_in (list_in w p)) p i) ≤ length (chosen v (kind_in (list_in w p)))

-- a cursor of a walk: at a double, or at the end
pub record CursorIn (w : Chart) (parts : ℕ) (c : Cursor) : Type 0 where
  pub ended : c.left ≡ 0 → rest_of w parts c ≡ []
  pub part_in : (c.left ≡ 0 → ⊥) → c.part < parts
  pub row_in : (c.left ≡ 0 → ⊥) → c.row < rows_of w c.part
  pub low : c.at + c.left ≤ 2 ^ 42
  pub there : (c.left ≡ 0 → ⊥) → (v : Five) → CellsFit w parts v → c.at + c.left ≤ length (chosen v (kind_in c.list))

-- the first double from row i of part p on
pub record Found (w : Chart) (parts p i : ℕ) (c : Cursor) : Type 0 where
  pub within : CursorIn w parts c
  pub rest_is : rest_of w parts c ≡ rest_from w (parts - p) p i

-- the double behind that of a cursor
pub record Stepped (w : Chart) (parts : ℕ) (c r : Cursor) : Type 0 where
  pub within : CursorIn w parts r
  pub rest_is : rest_of w parts c ≡ cell (kind_in c.list) c.at ∷ rest_of w parts r

-- ---- saved, and put back

-- the first n doubles of ds are the first n of old
pub record Kept (v : Five) (ds : List Cell) (n : ℕ) (old : List Float) : Type 0 where
  pub same : (j : ℕ) → j < n → get_or old j nan ≡ double_at v (get_or ds j no_cell)

pub record SavedFrom (w : Chart) (parts : ℕ) (v : Five) (c : Cursor) (old : List Float) (r : Saved) : Type 0 where
  pub some : 0 < r.n
  pub most : r.n ≤ 512
  pub high : r.n ≤ length (rest_of w parts c)
  pub within : CursorIn w parts r.next
  pub rest_is : rest_of w parts r.next ≡ drop r.n (rest_of w parts c)
  pub kept : Kept v (rest_of w parts c) r.n old

-- the doubles of old from j on, put to ds
unfoldable pub put_cells : Five → List Cell → List Float → ℕ → Five
put_cells v [] old j = v
put_cells v (d ∷ ds) old j = put_cells (set_double v d.kind d.index (get_or old j nan)) ds old (suc j)
