-- A change, and the book of permittivities (docs/SPECIFICATION.md, 12): total functions on input and lists, every refusal in the order of the table.
-- A setup once more, as the plan of all rows.
-- Assumes nothing.
use Rattle.std.specs.Prelude.{ℕ, suc, ◌+◌, ◌*◌, List, [], ◌∷◌, Bool, true, ◌&&◌, ◌||◌, cond, eqb, leb, ltb, get_or, Float}
use Rattle.std.proofs.Math.Option.{Option, none, some}
use Rattle.numbers.specs.Places.{set_number}
use Rattle.lattice.specs.Check.{Verdict, accepted, refused, check_of, check_stretches}
use Rattle.lattice.specs.Grid.{unknowns_of}
use Rattle.lattice.specs.Lattice.{FullLattice}
use Rattle.operators.specs.LevelLists.{edges_on}
use Rattle.store.specs.Book.{Answer, Done, Bad, NotFinite, set_up, change}
use Rattle.store.specs.Store.{Store, sizes, zeroed}
use Rattle.store.specs.Layout.{next_edges, forward_off, turned_off, operator_off, starts_off, stored_starts, ends_off}
use Rattle.store.specs.declared.Choice.{Choice}
use Rattle.store.specs.Setup.{Input, full_of, transfers_of, Result, result_of, unless, ends_part, forward_starts_of, forward_cols_of, turned_starts_of, turned_cols_of, operator_starts_of, operator_cols_of, all_to, structure_of, setup_of}
use Rattle.store.specs.Load.{load}
use Rattle.store.specs.Rows.{rules}
use Rattle.store.specs.Changes.{Change, Why, NoEdge, BadValue, changes}

-- ---- 11: starts, columns and ends against the lattice's

-- the values vs stand in a list from place k on
unfoldable pub matches : List ℕ → ℕ → List ℕ → Bool
matches cs k [] = true
matches cs k (v ∷ vs) = eqb (get_or cs k 0) v && matches cs (suc k) vs

abbrev pub ends_match : FullLattice → Store → ℕ → Bool
ends_match l s q = matches s.ends (ends_off l q) (ends_part l q)

abbrev pub transfer_matches : FullLattice → Store → ℕ → Bool
transfer_matches l s L =
    matches s.forward_starts (starts_off (edges_on l) L) (forward_starts_of l L)
    && (matches s.forward_columns (forward_off l L) (forward_cols_of l L)
    && (matches s.turned_starts (starts_off (next_edges l) L) (turned_starts_of l L)
    && matches s.turned_columns (turned_off l L) (turned_cols_of l L)))

-- a transfer counts as its fine level
unfoldable pub level_matches : FullLattice → Choice → ℕ → Store → ℕ → Bool
level_matches l ch m s L =
    (ends_match l s (3 * L) && (ends_match l s (3 * L + 1) && ends_match l s (3 * L + 2)))
    && ((leb m L || transfer_matches l s L)
    && (matches s.operator_starts (stored_starts l m L) (operator_starts_of l ch m L) && matches s.operator_columns (operator_off l ch m L) (operator_cols_of l ch m L)))

-- ---- the plan's answers

abbrev pub why_verdict : Why → ℕ → Verdict
why_verdict NoEdge e = refused 9 e
why_verdict BadValue e = refused 10 e

abbrev pub bad_verdict : Option Why → ℕ → Verdict
bad_verdict none e = accepted 0
bad_verdict (some why) e = why_verdict why e

-- accepted with n; a refusal leaves z
abbrev pub settled : ℕ → Answer Why → Store → ℕ → Store → Result
settled n Done s e z = result_of (accepted n) s
settled n (Bad why) s e z = result_of (why_verdict why e) z
settled n (NotFinite L) s e z = result_of (refused 7 L) z

-- a setup as the plan of all rows: the theorem `setup_planned` (proofs/PlannedLaws) says that it is `setup_of`
unfoldable pub planned_of : Input → List Float → Store → Result
planned_of i eps s =
    let l = full_of i in
    let o = set_up (rules l i.choice (transfers_of i)) Why (load l i.choice (transfers_of i) s eps) in
    unless (check_of i.lattice i.xn i.xh i.yn i.yh i.zn i.zh eps) s
    (unless (structure_of i (sizes s)) (zeroed s)
    (settled (suc (transfers_of i)) o.answer o.store 0 (zeroed s)))

-- a change takes the store as it finds it, whatever its holder put there
unfoldable pub change_of : Input → Store → Change → Result
change_of i s c =
    let l = full_of i in
    let o = change (rules l i.choice (transfers_of i)) (changes l) s c in
    unless (check_stretches i.lattice i.xn i.xh i.yn i.yh i.zn i.zh) s
    (unless (bad_verdict ((changes l).bad c) c.edge) s
    (unless (structure_of i (sizes s)) s
    (unless (all_to 11 (level_matches l i.choice (transfers_of i) s) (suc (transfers_of i))) s
    (settled (suc (transfers_of i)) o.answer o.store c.edge s))))

-- ---- the book of permittivities: it holds a list, at first the setup's, and what it holds is in force

pub record Told : Type 0 where
  pub verdict : Verdict
  pub list : List Float

abbrev pub told : Verdict → List Float → Told
told v xs = record { verdict = v; list = xs }

-- from the answer of a setup from the copy: where that is refusal 4, 10 at the edge
abbrev pub noted : Verdict → ℕ → List Float → List Float → Told
noted (accepted n) e new old = told (accepted n) new
noted (refused n p) e new old = told (cond (eqb n 4) (refused 10 e) (refused n p)) old

unfoldable pub book_of : Input → Store → List Float → Change → Told
book_of i b eps c =
    let copy = set_number eps c.edge c.value in
    cond (ltb c.edge (unknowns_of i.lattice.grid)) (noted (setup_of i copy b).verdict c.edge copy eps) (told (refused 9 c.edge) eps)

-- a list of changes, told to the store and to the book
unfoldable pub store_after : Input → Store → List Change → Store
store_after i s [] = s
store_after i s (c ∷ cs) = store_after i (change_of i s c).store cs

unfoldable pub store_answers : Input → Store → List Change → List Verdict
store_answers i s [] = []
store_answers i s (c ∷ cs) = (change_of i s c).verdict ∷ store_answers i (change_of i s c).store cs

unfoldable pub book_after : Input → Store → List Float → List Change → List Float
book_after i b eps [] = eps
book_after i b eps (c ∷ cs) = book_after i b (book_of i b eps c).list cs

unfoldable pub book_answers : Input → Store → List Float → List Change → List Verdict
book_answers i b eps [] = []
book_answers i b eps (c ∷ cs) = (book_of i b eps c).verdict ∷ book_answers i b (book_of i b eps c).list cs
