-- The starred cases (docs/SPECIFICATION.md, 6), all of them: the rows of the lattice and of the weights, and those around `averaged_eps`.
-- The theorem `all_cases` (proofs/Cases.antt) says that each comes out as worked by hand.
-- Assumes nothing.
use Rattle.std.specs.Prelude.{ℕ, Bool, true, false, List, [], ◌∷◌, ◌++◌, Float}
use Rattle.lattice.specs.Cases.{Case, over}
use Rattle.weights.specs.Cases as Below
use Rattle.operators.specs.Averaged.{around, hat_nodes, hat_weights}

-- the fine nodes around node m of the line 0 4 8, on the line 0 2 4 6 8
unfoldable pub hatting : Bool → ℕ → List ℕ → List Float → Case
hatting wall m places doubles =
    record {
      computed =
          record {
            places = hat_nodes (around wall (0 ∷ 2 ∷ 4 ∷ 6 ∷ 8 ∷ []) (0 ∷ 4 ∷ 8 ∷ []) m);
            doubles = hat_weights (around wall (0 ∷ 2 ∷ 4 ∷ 6 ∷ 8 ∷ []) (0 ∷ 4 ∷ 8 ∷ []) m);
          };
      expected = record { places = places; doubles = doubles };
    }

unfoldable pub table : List Case
table =
    Below.table
    ++ (hatting false 0 (3 ∷ 0 ∷ 1 ∷ []) (over 1 2 ∷ over 1 1 ∷ over 1 2 ∷ [])
    ∷ hatting true 0 (0 ∷ 1 ∷ []) (over 1 1 ∷ over 1 2 ∷ [])
    ∷ [])
