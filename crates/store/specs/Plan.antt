-- Rows over a store: each row writes some places, and computes their values from the places that it reads.
-- A run computes the rows of a plan, one after another; a change computes only the rows that it reaches. Assumes nothing: these are definitions.
use Rattle.std.specs.Prelude.{◌≡◌, ◌⊎◌, List, [], ◌∷◌, ◌++◌, Bool, true, cond, ◌&&◌, ℕ, ◌≤◌}
use Rattle.std.proofs.Math.Option.{Option, none, some}
use Rattle.numbers.specs.Lists.{In}
use Rattle.store.specs.Space.{Space, Look, Lawful, puts, meets}

pub record Rules (X : Space) : Type 1 where
  pub Row : Type 0
  -- all rows, in the order in which a set-up computes them
  pub full : List Row
  pub writes : Row → List X.P
  pub reads : Row → List X.P
  -- what the rule of a row says of each place that the row writes (of any other place: anything)
  pub calc : Look X → Row → Look X
  -- whether a value is a finite number
  pub fine? : (p : X.P) → X.Val p → Bool
  pub level : Row → ℕ

module _ {X : Space} (R : Rules X) where
  -- the store with one row computed anew
  abbrev pub step : X.S → R.Row → X.S
  step s r = puts X s (R.writes r) (R.calc (X.get s) r)

  -- the rows of a plan, one after another
  unfoldable pub run : List R.Row → X.S → X.S
  run [] s = s
  run (r ∷ rs) s = run rs (step s r)

  unfoldable pub all_fine : List X.P → Look X → Bool
  all_fine [] g = true
  all_fine (p ∷ ps) g = R.fine? p (g p) && all_fine ps g

  -- whether each number that the row's rule gives is finite
  abbrev pub row_fine : X.S → R.Row → Bool
  row_fine s r = all_fine (R.writes r) (R.calc (X.get s) r)

  -- whether each number of a plan is finite as it is computed
  unfoldable pub fine : List R.Row → X.S → Bool
  fine [] s = true
  fine (r ∷ rs) s = row_fine s r && fine rs (step s r)

  -- the level of the first row that has a number that is not finite
  unfoldable pub first_bad : List R.Row → X.S → Option ℕ
  first_bad [] s = none
  first_bad (r ∷ rs) s = cond (row_fine s r) (first_bad rs (step s r)) (some (R.level r))

  -- the rows computed anew, or the store as it was where a number is not finite
  unfoldable pub tried : List R.Row → X.S → X.S
  tried rs s = cond (fine rs s) (run rs s) s

  -- THE REACH: in order, each row that reads one of the places hot; its own places join them
  unfoldable pub reach : List X.P → List R.Row → List R.Row
  reach hot [] = []
  reach hot (r ∷ rs) = cond (meets X (R.reads r) hot) (r ∷ reach (R.writes r ++ hot) rs) (reach hot rs)

  -- the rows that a change of the places hot reaches
  abbrev pub reached : List X.P → List R.Row
  reached hot = reach hot R.full

  -- the place is written by a row of the plan
  abbrev pub Stands : X.P → List R.Row → Type 0
  Stands p [] = ⊥
  Stands p (r ∷ rs) = In p (R.writes r) ⊎ Stands p rs

  -- no row writes the place: a base place, or one beyond the store's use
  abbrev pub Free : X.P → Type 0
  Free p = Stands p R.full → ⊥

  -- the row holds what its rule says of the store itself
  abbrev pub Holds : X.S → R.Row → Type 0
  Holds s r = (p : X.P) → In p (R.writes r) → X.get s p ≡ R.calc (X.get s) r p

  abbrev pub Consistent : X.S → Type 0
  Consistent s = (r : R.Row) → In r R.full → Holds s r

  -- each number that a row has written is finite
  abbrev pub Finite : X.S → Type 0
  Finite s = (p : X.P) → Stands p R.full → R.fine? p (X.get s p) ≡ true

  -- the rows' places are all there
  abbrev pub Room : X.Shape → Type 0
  Room h = (p : X.P) → Stands p R.full → X.Has h p

  -- each row reads nothing that it or a later row writes, and writes nothing that a later row writes
  abbrev pub Rising : List R.Row → Type 0
  Rising [] = Unit {0}
  Rising (r ∷ rs) =
      ((p : X.P) → In p (R.reads r) → Stands p (r ∷ rs) → ⊥)
      × ((p : X.P) → In p (R.writes r) → Stands p rs → ⊥)
      × Rising rs

  -- the levels do not fall
  abbrev pub Climbing : List R.Row → Type 0
  Climbing [] = Unit {0}
  Climbing (r ∷ rs) = ((q : R.Row) → In q rs → R.level r ≤ R.level q) × Climbing rs

  -- ps is a sound plan for the rows rs where the places hot have changed: each row is taken, and its places join hot; or it reads none of hot, and is left out
  abbrev pub Sound : List X.P → List R.Row → List R.Row → Type 0
  Sound hot ps [] = ps ≡ []
  Sound hot ps (r ∷ rs) =
      ((qs : List R.Row) × (ps ≡ r ∷ qs) × Sound (R.writes r ++ hot) qs rs)
      ⊎ (((p : X.P) → In p (R.reads r) → In p hot → ⊥) × Sound hot ps rs)

  -- two stores that differ at most in what rows have written
  abbrev pub Alike : X.S → X.S → Type 0
  Alike s t = (X.shape s ≡ X.shape t) × ((p : X.P) → Free p → X.get s p ≡ X.get t p)

-- what is to be proved of a space and its rules
pub record Laws (X : Space) (R : Rules X) : Type 0 where
  pub lawful : Lawful X
  -- a rule turns on nothing but the places that the row reads
  pub local : (r : R.Row) (f g : Look X) → ((q : X.P) → In q (R.reads r) → f q ≡ g q) → (p : X.P) → In p (R.writes r) → R.calc f r p ≡ R.calc g r p
  pub rising : Rising R R.full
