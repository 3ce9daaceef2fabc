-- The steps of a change: what its answers mean, the change of one edge, and the change behind the checks of its input.
-- Assumes nothing.
use Rattle.std.specs.Prelude.{ℕ, suc, ◌≡◌, List, cond, ltb, Ok, Err, Result as Answer}
use Rattle.std.proofs.Math.Option.{none}
use Rattle.numbers.specs.declared.C64.{C64}
use Rattle.lattice.specs.Check.{Verdict, accepted, refused, and_then, bad_number}
use Rattle.lattice.specs.Grid.{unknowns_of}
use Rattle.lattice.specs.Lattice.{FullLattice}
use Rattle.lattice.specs.Levels.{depth_of}
use Rattle.lattice.specs.declared.lattice.Lattice.{Lattice}
use Rattle.store.specs.Store.{Store, sizes}
use Rattle.store.specs.Places.{space}
use Rattle.store.specs.Book.{Outcome, outcome, change}
use Rattle.store.specs.Setup.{Result, unless, all_to, names_once, short_of}
use Rattle.store.specs.Steps.{answer_of, m_of}
use Rattle.store.specs.Rows.{rules}
use Rattle.store.specs.Changes.{Change, Why, changes}
use Rattle.store.specs.Calls.{level_matches, settled}
use Rattle.store.specs.Work.{Structured}
use Rattle.store.specs.Worked.{answer_by}
use Rattle.store.specs.Renewed.{Fixed, Five, store_of}
use Rattle.store.specs.declared.Choice.{Choice}
use Rattle.store.specs.declared.change.Refusal.{Refusal}
use Rattle.store.specs.declared.change.Refusal.TheVariants.{Setup, NoEdge, BadValue, Differs}

-- what a change's answers mean: the level count, or a refusal's number and place
abbrev pub changed_of : Answer ℕ Refusal → Verdict
changed_of (Ok n) = accepted n
changed_of (Err (Setup r)) = answer_of (Err r)
changed_of (Err (NoEdge edge)) = refused 9 edge
changed_of (Err (BadValue edge)) = refused 10 edge
changed_of (Err (Differs level)) = refused 11 level

abbrev pub change_to : ℕ → C64 → Change
change_to edge value = record { edge = edge; value = value }

-- 9 and 10
unfoldable pub edit_verdict : Lattice → ℕ → C64 → Verdict
edit_verdict v edge value = cond (ltb edge (unknowns_of v.grid)) (cond (bad_number value) (refused 10 edge) (accepted 0)) (refused 9 edge)

-- the change of an edge that is there to a value that is sound, in the lists of numbers
pub record EdgeRenewed (l : FullLattice) (ch : Choice) (m : ℕ) (x : Fixed) (c : Change) (v : Five) (n : ℕ) (u : Five) : Type 0 where
  pub changed : (ends : List ℕ) → Structured l ch m (store_of ends x v) → (changes l).bad c ≡ none
      → ◌≡◌ {A = Outcome space Why} (outcome (answer_by n) (store_of ends x u)) (change (rules l ch m) (changes l) (store_of ends x v) c)

-- behind the checks: 5, 8 and 6 by structure, 11, then the rows with 7
unfoldable pub changed_behind : FullLattice → Choice → ℕ → Store → Change → Result
changed_behind l ch coarsest s c =
    let m = m_of l coarsest in
    let o = change (rules l ch m) (changes l) s c in
    unless (and_then (and_then (depth_of l coarsest) (all_to 8 (names_once l) m)) (short_of l ch m (sizes s))) s
    (unless (all_to 11 (level_matches l ch m s) (suc m)) s
    (settled (suc m) o.answer o.store c.edge s))
