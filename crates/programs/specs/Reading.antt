-- The reading of a file byte by byte (docs/SPECIFICATION.md, 13): the machine, and what it answers at the end of the file. The first refusal ends the reading.
-- Assumes nothing.
use Rattle.std.specs.Prelude.{ℕ, ◌+◌, ◌*◌, ◌&&◌, ◌||◌, cond, Option, Some, None, Result, Ok, Err, List, [], ◌∷◌, eqb, ltb, length, get_or, set, replicate, Float}
use Rattle.numbers.specs.Places.{set_number}
use Rattle.lattice.specs.Check.{Verdict, accepted, refused, and_then, check_grid}
use Rattle.lattice.specs.declared.lattice.Edges.{Edges}
use Rattle.lattice.specs.declared.lattice.Edges.TheVariants.{Pml, Bloch}
use Rattle.store.specs.Store.{Store}
use Rattle.store.specs.Setup.{Result as Outcome, setup_of}
use Rattle.store.specs.Calls.{change_of}
use Rattle.store.specs.ChangeSteps.{change_to}
pub use Rattle.store.specs.Told.{told, told_by, said}
use Rattle.store.specs.Told.{choice_of}
use Rattle.store.specs.declared.Choice.TheVariants.{Galerkin}
use Rattle.store.specs.declared.told.Told.{Told}
use Rattle.programs.specs.Bytes.{word32, pair_at}
use Rattle.programs.specs.Records.{grid_of, stretch_count, cell_count, edge_count, has_byte, due_of, bare_of, size_due, input_read, given_read}
use Rattle.programs.specs.declared.kinds.Kind.{Kind}
use Rattle.programs.specs.declared.kinds.Kind.TheVariants as Kinds
use Rattle.programs.specs.declared.reader.Begun.{Begun}
use Rattle.programs.specs.declared.reader.Reader.{Reader}
use Rattle.programs.specs.declared.records.Seen.{Seen}
use Rattle.programs.specs.declared.records.Stage.{Stage}
use Rattle.programs.specs.declared.records.Stage.TheVariants.{Start, AxisX, AxisY, AxisZ, Numbers, Changes, Over}

-- ---- answers

-- as two words
abbrev pub answer_words : Result ℕ Told → List ℕ
answer_words (Ok n) = 0 ∷ (n ∷ [])
answer_words (Err t) = t.number ∷ (t.place ∷ [])

-- ---- the state

-- before the first byte
abbrev pub unseen : Seen
unseen = record { stage = Start; count = 0; grid = replicate 46 0; x = Pml; y = Pml; z = Pml; choice = Galerkin; coarsest = 0 }

abbrev pub fresh : Reader
fresh = record { seen = unseen; begun = None; at = 0; answer = Ok 0 }

-- between records, what was read being s
abbrev pub between : Reader → Seen → Reader
between r s = record { seen = s; begun = None; at = r.at; answer = r.answer }

-- between records, with an answer
abbrev pub answered : Reader → Result ℕ Told → Reader
answered r a = record { seen = r.seen; begun = None; at = r.at; answer = a }

-- refusal 12 at a place
abbrev pub out_of_turn : Reader → ℕ → Reader
out_of_turn r place = answered r (Err (told 12 place))

-- one byte further
abbrev pub moved : Reader → Reader
moved r = record { seen = r.seen; begun = r.begun; at = r.at + 1; answer = r.answer }

-- ---- a byte of kind

-- a body of which nothing is read, its kind byte being at `start`
abbrev pub unfilled : ℕ → Begun
unfilled start = record { start = start; filled = 0; body = replicate 46 0 }

-- in the body of a record whose kind byte stands here
abbrev pub opened : Reader → Reader
opened r = record { seen = r.seen; begun = Some (unfilled r.at); at = r.at + 1; answer = r.answer }

-- the kind of the next axis, where one is next
abbrev pub axis_at : Stage → Seen → Edges → Seen
axis_at AxisX s e = record s { stage = AxisY; x = e }
axis_at AxisY s e = record s { stage = AxisZ; y = e }
axis_at AxisZ s e = record s { stage = Numbers; z = e }
axis_at stage s e = s

abbrev pub axis_seen : Seen → Edges → Seen
axis_seen s e = axis_at s.stage s e

-- a record without a body: a wall, or the end
abbrev pub bare_at : Stage → Seen → Seen
bare_at AxisX s = axis_seen s Pml
bare_at AxisY s = axis_seen s Pml
bare_at AxisZ s = axis_seen s Pml
bare_at stage s = record s { stage = Over }

unfoldable pub bare_read : Reader → Reader
bare_read r = between (moved r) (bare_at r.seen.stage r.seen)

-- 12 where the record is out of turn, at its kind byte
unfoldable pub kind_read : Reader → ℕ → Reader
kind_read r b =
    cond (has_byte (due_of r.seen) b) (opened r)
    (cond (has_byte (bare_of r.seen.stage) b) (bare_read r)
    (out_of_turn r r.at))

-- ---- a byte of a body

unfoldable pub taken : Reader → Begun → ℕ → Reader
taken r o b =
    record {
      seen = r.seen;
      begun = Some (record { start = o.start; filled = o.filled + 1; body = set o.body o.filled b });
      at = r.at + 1;
      answer = r.answer;
    }

-- the byte goes to the body, if it has room
unfoldable pub body_read : Reader → Begun → ℕ → Reader
body_read r o b = cond (ltb o.filled (size_due r.seen)) (taken r o b) (out_of_turn r o.start)

-- ---- any byte

-- the last offset that a reader counts to, beyond all files
abbrev pub last_offset : ℕ
last_offset = 0xffff_ffff_ffff_ffff

abbrev pub byte_read : Option Begun → Reader → ℕ → Reader
byte_read None r b = kind_read r b
byte_read (Some o) r b = body_read r o b

-- nothing more behind a refusal; 12 at the last offset, and for a reader that no reading leaves
abbrev pub stepped_by : Result ℕ Told → Reader → ℕ → Reader
stepped_by (Err t) r b = r
stepped_by (Ok n) r b = cond (eqb r.at last_offset) (out_of_turn r r.at) (byte_read r.begun r b)

unfoldable pub stepped : Reader → ℕ → Reader
stepped r b = stepped_by r.answer r b

-- the body of a record, where it has all its bytes, and one at least, so that a record is due
abbrev pub whole_by : Result ℕ Told → Option Begun → ℕ → Option Begun
whole_by (Ok n) (Some o) size = cond (ltb 0 o.filled && eqb o.filled size) (Some o) None
whole_by a o size = None

unfoldable pub whole : Reader → Option Begun
whole r = whole_by r.answer r.begun (size_due r.seen)

-- ---- a record whose body is whole

-- 1, then 13: more cells than the reader takes, or more numbers than the list that holds them has places for
unfoldable pub grid_verdict : ℕ → ℕ → List ℕ → Verdict
grid_verdict limit room b =
    and_then (check_grid (grid_of b))
    (cond (ltb limit (cell_count b) || ltb room (2 * (stretch_count b + edge_count b))) (refused 13 (cell_count b)) (accepted 0))

abbrev pub grid_seen : Seen → List ℕ → Seen
grid_seen s b = record s { stage = AxisX; grid = b }

unfoldable pub grid_read : ℕ → ℕ → Reader → List ℕ → Reader
grid_read limit room r b = answered (between r (grid_seen r.seen b)) (said (told_by (grid_verdict limit room b)))

unfoldable pub axis_read : Reader → List ℕ → Reader
axis_read r b = between r (axis_seen r.seen (Bloch (pair_at b 0)))

-- one number more
unfoldable pub number_read : Reader → Reader
number_read r = between r (record (r.seen) { count = r.seen.count + 1 })

unfoldable pub choice_read : Reader → List ℕ → Reader
choice_read r b = between r (record (r.seen) { stage = Changes; choice = choice_of (get_or b 0 0); coarsest = word32 b 1 })

-- ---- the machine: the reader, the numbers that it holds, and the lent lists

pub record Machine : Type 0 where
  pub reader : Reader
  pub held : List Float
  pub store : Store

abbrev pub machine : Reader → List Float → Store → Machine
machine r held s = record { reader = r; held = held; store = s }

-- what a setup or a change answers and leaves
abbrev pub ran : Reader → List Float → Outcome → Machine
ran r held res = machine (answered r (said (told_by res.verdict))) held res.store

-- the setup, behind its choice: 12 where the choice is over 1, at the record's kind byte
unfoldable pub setup_run : Reader → Begun → List Float → Store → Machine
setup_run r o held s =
    cond (ltb 1 (get_or o.body 0 0))
    (machine (out_of_turn r o.start) held s)
    (ran (choice_read r o.body) held (setup_of (input_read (choice_read r o.body).seen held) (given_read r.seen held) s))

-- a change: a u32, the edge, and the value
unfoldable pub change_run : Reader → List ℕ → List Float → Store → Machine
change_run r b held s = ran r held (change_of (input_read r.seen held) s (change_to (word32 b 0) (pair_at b 4)))

unfoldable pub number_run : Reader → List ℕ → List Float → Store → Machine
number_run r b held s = machine (number_read r) (set_number held r.seen.count (pair_at b 0)) s

-- by its kind; a wall and the end have no body
abbrev pub closed_by : Option Kind → ℕ → Reader → Begun → List Float → Store → Machine
closed_by (Some Kinds.Grid) limit r o held s = machine (grid_read limit (length held) r o.body) held s
closed_by (Some Kinds.Bloch) limit r o held s = machine (axis_read r o.body) held s
closed_by (Some Kinds.Stretch) limit r o held s = number_run r o.body held s
closed_by (Some Kinds.Permittivity) limit r o held s = number_run r o.body held s
closed_by (Some Kinds.Choice) limit r o held s = setup_run r o held s
closed_by (Some Kinds.Change) limit r o held s = change_run r o.body held s
closed_by k limit r o held s = machine r held s

unfoldable pub closed : ℕ → Reader → Begun → List Float → Store → Machine
closed limit r o held s = closed_by (due_of r.seen) limit r o held s

-- one byte, the reader behind it being r
abbrev pub fed_by : ℕ → Option Begun → Reader → List Float → Store → Machine
fed_by limit None r held s = machine r held s
fed_by limit (Some o) r held s = closed limit r o held s

unfoldable pub fed : ℕ → Machine → ℕ → Machine
fed limit m b =
    let r = stepped m.reader b in
    fed_by limit (whole r) r m.held m.store

-- all bytes of a piece
unfoldable pub fed_all : ℕ → Machine → List ℕ → Machine
fed_all limit m [] = m
fed_all limit m (b ∷ bs) = fed_all limit (fed limit m b) bs

-- ---- the end of the file

-- where a record is cut off, its kind byte, and else the file's length
abbrev pub cut_off : Option Begun → Reader → ℕ
cut_off None r = r.at
cut_off (Some o) r = o.start

-- what the reading answers: 12 where a record is cut off or the end is missing
abbrev pub ended_by : Stage → ℕ → Reader → Result ℕ Told
ended_by Over n r = Ok n
ended_by stage n r = Err (told 12 (cut_off r.begun r))

abbrev pub finished_by : Result ℕ Told → Reader → Result ℕ Told
finished_by (Err t) r = Err t
finished_by (Ok n) r = ended_by r.seen.stage n r

unfoldable pub finished : Reader → Result ℕ Told
finished r = finished_by r.answer r
