-- What the layers below say that each row of the store holds, from the given permittivities: f reads them. Assumes nothing: these are definitions.
use Rattle.std.specs.Prelude.{ℕ, suc, ◌+◌, ◌<◌, ◌≡◌, List, [], ◌∷◌, get_or}
use Rattle.numbers.specs.declared.C64.{C64}
use Rattle.numbers.specs.Complex.{no_number}
use Rattle.lattice.specs.Lattice.{FullLattice}
use Rattle.numbers.specs.Terms.{numbers_of}
use Rattle.operators.specs.LevelLists.{edges_on}
use Rattle.operators.specs.Levels.{eps_at, averaged_on, forward_at, turned_at, volumes_at, inverse_shares_at}
use Rattle.numbers.specs.Lists.{In}
use Rattle.store.specs.Store.{Store}
use Rattle.store.specs.Places.{get}
use Rattle.store.specs.Spots.{permittivity, number_in}
use Rattle.store.specs.Layout.{operator_at}
use Rattle.store.specs.declared.Choice.{Choice}
use Rattle.store.specs.Rows.{Row, coarse, averaged, forward, turned, volume, share, operator, kind_of, from, count, full}

abbrev pub landed : FullLattice → Choice → (ℕ → C64) → Row → List C64
landed l ch f (coarse L r) = eps_at l f (suc L) r ∷ []
landed l ch f (averaged L r) = averaged_on l f (suc L) r ∷ []
landed l ch f (forward L r) = numbers_of (forward_at l f L r)
landed l ch f (turned L c) = numbers_of (turned_at l f L c)
landed l ch f (volume L r) = volumes_at l L r ∷ []
landed l ch f (share L c) = inverse_shares_at l f L c ∷ []
landed l ch f (operator L r) = numbers_of (operator_at l ch f L r)

-- the store's permittivities of level 0 are those that f reads
abbrev pub Given : FullLattice → (ℕ → C64) → Store → Type 0
Given l f s = (r : ℕ) → r < edges_on l 0 → number_in (get s) permittivity r ≡ f r

-- every row of the store holds what the layers below say
pub record Laid (l : FullLattice) (ch : Choice) (m : ℕ) (f : ℕ → C64) (s : Store) : Type 0 where
  pub holds : (r : Row) → In r (full l ch m) → (q : ℕ) → q < count l ch m r → number_in (get s) (kind_of l ch m r) (from l ch m r + q) ≡ get_or (landed l ch f r) q no_number
