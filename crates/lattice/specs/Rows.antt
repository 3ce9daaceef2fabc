-- Row r of the operator from the lattice (docs/SPECIFICATION.md, 3): Shin and Fan's, k0² ε - curl curl with the grad-div term of factor -1,
-- as a list of terms in the order pushed. The permittivities are seen only through a reader, position to number.
-- Assumes nothing.
use Rattle.std.specs.Prelude.{ℕ, cond, List, [], ◌∷◌, ◌++◌, eqb, length, pos}
use Rattle.std.specs.Float.{binary64}
use Rattle.std.specs.Float.Ieee.{of_int}
use Rattle.numbers.specs.declared.C64.{C64}
use Rattle.numbers.specs.Complex.{mul_f, neg_f, one_f, zero_number, one_number, product, negation, real_over, over_real, real_times}
use Rattle.numbers.specs.Terms.{Term, columns_of}
use Rattle.numbers.specs.Lists.{each, summed}
use Rattle.lattice.specs.Neighbours.{is_fixed}
use Rattle.lattice.specs.Curls.{minus_one_f, curl_e, curl_h, divergence_of, gradient_of}
use Rattle.lattice.specs.Lattice.{FullLattice}
use Rattle.lattice.specs.declared.rows.Sum.{Sum}

-- ---- - curl curl

-- a term of curl E, at an edge that is not fixed, times the negated weight of its face
unfoldable pub face_term : FullLattice → C64 → Term → List Term
face_term l wh t = cond (is_fixed l t.column) [] (record { column = t.column; number = product (negation wh) t.number } ∷ [])

unfoldable pub face_terms : FullLattice → Term → List Term
face_terms l h = each (face_term l h.number) (curl_e l h.column)

unfoldable pub curl_curl : FullLattice → ℕ → List Term
curl_curl l r = each (face_terms l) (curl_h l r)

-- ---- the permittivity at a node: the mean over the edges of its divergence that are not fixed

-- those of some edges that are not fixed
unfoldable pub free_of : FullLattice → List ℕ → List ℕ
free_of l [] = []
free_of l (c ∷ cs) = cond (is_fixed l c) (free_of l cs) (c ∷ free_of l cs)

unfoldable pub free_columns : FullLattice → ℕ → List ℕ
free_columns l q = free_of l (columns_of (divergence_of l q))

-- the sum of what is read at some edges that are not fixed, from +0, and how many they are
unfoldable pub free_sum : FullLattice → (ℕ → C64) → List ℕ → Sum
free_sum l f cs = record { total = summed f zero_number (free_of l cs); count = length (free_of l cs) }

-- the sum over the count; 1 where there is none
unfoldable pub mean : (ℕ → C64) → List ℕ → C64
mean f cs = cond (eqb (length cs) 0) one_number (over_real (summed f zero_number cs) (of_int binary64 (pos (length cs))))

unfoldable pub node_eps : FullLattice → (ℕ → C64) → ℕ → C64
node_eps l f q = mean f (free_columns l q)

-- ---- the grad-div term, its factor -1 negated and multiplied in first

unfoldable pub node_term : FullLattice → (ℕ → C64) → C64 → C64 → Term → List Term
node_term l f wg inverse t =
    cond (is_fixed l t.column) []
    (record {
      column = t.column;
      number = product (product (product (real_times (neg_f minus_one_f) wg) t.number) (f t.column)) inverse;
    } ∷ [])

unfoldable pub node_terms : FullLattice → (ℕ → C64) → Term → List Term
node_terms l f g = each (node_term l f g.number (real_over one_f (node_eps l f g.column))) (divergence_of l g.column)

unfoldable pub grad_div : FullLattice → (ℕ → C64) → ℕ → List Term
grad_div l f r = each (node_terms l f) (gradient_of l r)

-- ---- the row

unfoldable pub row_into : FullLattice → (ℕ → C64) → ℕ → List Term
row_into l f r =
    cond (is_fixed l r)
    (record { column = r; number = one_number } ∷ [])
    (record { column = r; number = real_times (mul_f l.k0 l.k0) (f r) } ∷ (curl_curl l r ++ grad_div l f r))

-- the positions of permittivities that row r reads: its own, and those of the divergence's free edges at each of its gradient's nodes
unfoldable pub free_columns_of : FullLattice → Term → List ℕ
free_columns_of l g = free_columns l g.column

unfoldable pub row_reads : FullLattice → ℕ → List ℕ
row_reads l r = cond (is_fixed l r) [] (r ∷ each (free_columns_of l) (gradient_of l r))
