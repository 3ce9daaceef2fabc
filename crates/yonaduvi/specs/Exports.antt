-- What the calls for C and Rust are handed, and what they leave in the lists that they are lent, in terms of the store's definitions
-- (docs/SPECIFICATION.md, 11).
-- Assumes nothing.
use Rattle.std.specs.Prelude.{ℕ, ◌+◌, ◌-◌, ◌*◌, ◌<◌, ◌≤◌, ◌^◌, ◌≡◌, Bool, false, not, cond, List, [], ◌∷◌, eqb, ltb, length, get_or, replicate, Float, Some, None}
use Rattle.std.specs.Float.{nan}
use Rattle.std.specs.Float.Ieee as Ieee
use Rattle.numbers.specs.Complex.{zero_f, one_f}
use Rattle.numbers.specs.Lists.{tabulate, laid}
use Rattle.lattice.specs.Check.{Verdict, accepted, refused}
use Rattle.lattice.specs.declared.lattice.Edges.{Edges}
use Rattle.lattice.specs.declared.lattice.Edges.TheVariants.{Pml, Bloch}
use Rattle.lattice.specs.declared.input.Stretches.{Stretches}
use Rattle.lattice.specs.declared.lattice.Lattice.{Lattice}
use Rattle.store.specs.Store.{Store}
use Rattle.store.specs.Setup.{Input, Result, input_of, full_of, transfers_of}
use Rattle.store.specs.FillSteps.{needs_of}
use Rattle.store.specs.Needed.{cells_of, needed_verdict}
use Rattle.store.specs.Handed.{Span}
pub use Rattle.store.specs.Told.{choice_of}
use Rattle.store.specs.declared.handed.Cells.{Cells}
use Rattle.store.specs.declared.needs.Needs.{Needs}
use Rattle.programs.specs.Reading.{Machine, answer_words, finished}

-- ---- the input

-- an axis's kind and phase: a zero of either sign is a wall
unfoldable pub edges_from : Float → Float → Float → Edges
edges_from kind re im = cond (Ieee.eq kind zero_f) Pml (Bloch (record { re = re; im = im }))

-- no cells: it is refused
unfoldable pub no_lattice : Lattice
no_lattice =
    record {
      grid = record { nx = 0; ny = 0; nz = 0; dx = one_f; dy = one_f; dz = one_f };
      x = Pml;
      y = Pml;
      z = Pml;
      k0 = one_f;
      shift = zero_f;
    }

-- of two lists; none where either is too short
unfoldable pub lattice_from : List ℕ → List Float → Lattice
lattice_from cells scalars =
    cond (ltb (length cells) 3) no_lattice
    (cond (ltb (length scalars) 14) no_lattice
    (record {
      grid =
          record {
            nx = get_or cells 0 0;
            ny = get_or cells 1 0;
            nz = get_or cells 2 0;
            dx = get_or scalars 0 nan;
            dy = get_or scalars 1 nan;
            dz = get_or scalars 2 nan;
          };
      x = edges_from (get_or scalars 5 nan) (get_or scalars 6 nan) (get_or scalars 7 nan);
      y = edges_from (get_or scalars 8 nan) (get_or scalars 9 nan) (get_or scalars 10 nan);
      z = edges_from (get_or scalars 11 nan) (get_or scalars 12 nan) (get_or scalars 13 nan);
      k0 = get_or scalars 3 nan;
      shift = get_or scalars 4 nan;
    }))

-- the input of a setup but for the permittivities
abbrev pub input_from : List ℕ → List Float → List Float → List Float → List Float → List Float → List Float → List Float → ℕ → ℕ → Input
input_from cells scalars xn xh yn yh zn zh choice coarsest = input_of (lattice_from cells scalars) xn xh yn yh zn zh (choice_of choice) coarsest

-- of the six lists as they go through the code
abbrev pub input_with : List ℕ → List Float → Stretches → ℕ → ℕ → Input
input_with cells scalars on = input_from cells scalars on.xn.now on.xh.now on.yn.now on.yh.now on.zn.now on.zh.now

-- ---- answers

-- a refusal's number and place, or 0 and what is answered
abbrev pub answered : Verdict → List ℕ → List ℕ
answered (accepted n) out = laid out 0 (0 ∷ (n ∷ []))
answered (refused number place) out = laid out 0 (number ∷ (place ∷ []))

-- refusals 1 to 4 leave the lists as they were
abbrev pub untouched : Verdict → Bool
untouched (accepted n) = false
untouched (refused number place) = ltb number 5

-- what an answer leaves in a list: values from its beginning on, or after a refusal what stood there, and after one from 5 on zero in every place
abbrev pub list_left : Verdict → List ℕ → List ℕ → List ℕ
list_left (accepted n) xs vs = laid xs 0 vs
list_left (refused number place) xs vs = cond (ltb number 5) xs (replicate (length xs) 0)

-- ---- a setup or a change: number and place of a refusal, or 0 and the level count, and the lists

pub record CallLeft (r : Result) (out out' : List ℕ) (s' : Store) : Type 0 where
  pub answer_left : out' ≡ answered r.verdict out
  pub store_left : s' ≡ r.store

-- ---- a file: number and place of what its reading answers, the numbers held, and the lists; m is the machine behind the last byte

pub record ReadLeft (m : Machine) (out out' : List ℕ) (held' : List Float) (s' : Store) : Type 0 where
  pub answer_left : out' ≡ laid out 0 (answer_words (finished m.reader))
  pub held_left : held' ≡ m.held
  pub store_left : s' ≡ m.store

-- ---- what a setup needs

-- the places of each of the twelve lists, in the order in which a setup takes them
abbrev pub needs_words : Needs → List ℕ
needs_words n =
    n.ends
    ∷ (n.eps
    ∷ (n.starts
    ∷ (n.terms ∷ (n.terms ∷ (n.tstarts ∷ (n.terms ∷ (n.terms ∷ (n.ostarts ∷ (n.oterms ∷ (n.oterms ∷ (n.scaling ∷ [])))))))))))

-- the level count, then the cells of axis a on level L at 1 + 3 L + a
abbrev pub cells_words : Cells → List ℕ
cells_words c = c.levels ∷ c.cells

pub record NeedsLeft (i : Input) (out needs counts out' needs' counts' : List ℕ) : Type 0 where
  pub answer_left : out' ≡ answered (needed_verdict i) out
  pub needs_left : needs' ≡ list_left (needed_verdict i) needs (needs_words (needs_of (full_of i) i.choice (transfers_of i)))
  pub counts_left : counts' ≡ list_left (needed_verdict i) counts (cells_words (cells_of (full_of i) (transfers_of i)))

-- ---- rows

-- the counts read back; what is missing counts as 0
abbrev pub count_at : List ℕ → ℕ → ℕ
count_at counts q = get_or counts (q + 1) 0

abbrev pub cells_from : List ℕ → Cells
cells_from counts = record { levels = get_or counts 0 0; cells = tabulate (count_at counts) 36 0 }

-- 0 is the forward list, every other number the turned one
abbrev pub is_turned : ℕ → Bool
is_turned n = not (eqb n 0)

-- where the terms of a row begin and how many there are, each term k places; 0 and 0 where there is no such row
abbrev pub spanned : ℕ → Span → List ℕ
spanned k (Some (i, j)) = k * i ∷ (k * (j - i) ∷ [])
spanned k None = 0 ∷ (0 ∷ [])

-- the row's ends are in order, and its places are numbers of the machine
pub record Within (k : ℕ) (s : Span) : Type 0 where
  pub held : (i j : ℕ) → s ≡ Some (i, j) → (i ≤ j) × (k * j < 2 ^ 64)
