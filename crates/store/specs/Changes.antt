-- Changes of the store (docs/SPECIFICATION.md, 12): each sets one permittivity of level 0. Assumes nothing: these are definitions.
use Rattle.std.specs.Prelude.{ℕ, [], ◌∷◌, cond, ltb}
use Rattle.std.proofs.Math.Option.{none, some}
use Rattle.numbers.specs.declared.C64.{C64}
use Rattle.lattice.specs.Check.{bad_number}
use Rattle.lattice.specs.Lattice.{FullLattice}
use Rattle.operators.specs.LevelLists.{edges_on}
use Rattle.store.specs.Book.{Edits, said}
use Rattle.store.specs.Places.{space}
use Rattle.store.specs.Spots.{permittivity, spot, cells, laid_from}

-- edge `edge` of level 0 gets the permittivity `value`
pub record Change : Type 0 where
  pub edge : ℕ
  pub value : C64

-- refusals 9 and 10, at that edge
pub data Why : Type 0 where
  NoEdge BadValue : Why

abbrev pub changes : FullLattice → Edits space Why
changes l =
    said space Why Change (λ c. cells (spot permittivity c.edge)) (λ c. laid_from (c.value ∷ []) c.edge)
    (λ c. cond (ltb c.edge (edges_on l 0)) (cond (bad_number c.value) (some BadValue) none) (some NoEdge))
