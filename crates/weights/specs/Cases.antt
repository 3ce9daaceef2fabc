-- The starred cases (docs/SPECIFICATION.md, 6): the rows of the lattice layer, and those of interpolation and of the coarse permittivity.
-- The theorem `all_cases` (proofs/Cases.antt) says that each comes out as worked by hand.
-- Assumes nothing.
use Rattle.std.specs.Prelude.{ℕ, Bool, true, false, cond, List, [], ◌∷◌, ◌++◌, eqb, Float}
use Rattle.numbers.specs.declared.C64.{C64}
use Rattle.numbers.specs.Complex.{zero_f, one_number}
use Rattle.lattice.specs.declared.lattice.Edges.{Edges}
use Rattle.lattice.specs.declared.lattice.Edges.TheVariants.{Pml, Bloch}
use Rattle.lattice.specs.Stretched.{map_list}
use Rattle.numbers.specs.Terms.{Term, columns_of}
use Rattle.lattice.specs.Cases as Below
use Rattle.lattice.specs.Cases.{Outcome, Case, over, everywhere}
use Rattle.weights.specs.Interpolate.{value_places, interpolated}
use Rattle.weights.specs.CoarseEps.{harmonic}

-- both parts of each number
unfoldable pub parts_of : List Term → List Float
parts_of [] = []
parts_of (t ∷ ts) = t.number.re ∷ (t.number.im ∷ parts_of ts)

-- place p on the line 0 2 4 6 8 takes values of the line 0 4 8; all stretches are 1
unfoldable pub taking : Edges → Bool → ℕ → List ℕ → List Float → Case
taking e along p places doubles =
    record {
      computed =
          record {
            places = columns_of (interpolated e (map_list (everywhere (over 1 1)) 4) (value_places (0 ∷ 4 ∷ 8 ∷ []) along) 8 along p);
            doubles = parts_of (interpolated e (map_list (everywhere (over 1 1)) 4) (value_places (0 ∷ 4 ∷ 8 ∷ []) along) 8 along p);
          };
      expected = record { places = places; doubles = doubles };
    }

-- permittivity 2 at edge 0, 4 at every other
unfoldable pub two_and_four : ℕ → C64
two_and_four c = cond (eqb c 0) (record { re = over 2 1; im = zero_f }) (record { re = over 4 1; im = zero_f })

unfoldable pub mean_of : List ℕ → List Float → Case
mean_of cs doubles =
    record {
      computed = record { places = []; doubles = (harmonic two_and_four cs).re ∷ ((harmonic two_and_four cs).im ∷ []) };
      expected = record { places = []; doubles = doubles };
    }

unfoldable pub table : List Case
table =
    Below.table
    ++ (taking (Bloch one_number) true 1 (1 ∷ 0 ∷ []) (over 1 4 ∷ zero_f ∷ over 3 4 ∷ zero_f ∷ [])
    ∷ taking Pml true 1 (0 ∷ []) (over 1 1 ∷ zero_f ∷ [])
    ∷ taking Pml false 6 (1 ∷ []) (over 1 2 ∷ zero_f ∷ [])
    ∷ mean_of (0 ∷ 1 ∷ []) (over 8 3 ∷ zero_f ∷ [])
    ∷ [])
