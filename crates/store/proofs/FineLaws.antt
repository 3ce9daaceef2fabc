-- Turned numbers are forward numbers, so they are finite where those are. Assumes nothing.
use Prim.Native.Nat.{ℕ, zero, suc, ◌<◌}
use mathlib.Core.Path.{◌≡◌, refl, sym, ap, ◌∙◌}
use mathlib.Core.Logic.{inl, inr}
use mathlib.Core.Bool.{true}
use mathlib.Core.List.{List, [], ◌∷◌, map}
use native.Mathlib.Omega.{arith}
use lib.ListN.{length, get_or}
use Rattle.std.proofs.lemmas.Bool.{and_from, and_parts}
use Rattle.numbers.specs.declared.C64.{C64}
use Rattle.numbers.specs.Complex.{finite, no_number}
use Rattle.numbers.specs.Lists.{rows, all_finite, In}
use Rattle.numbers.specs.Terms.{Term, columns_of, numbers_of}
use Rattle.numbers.specs.Transpose.{turned_row, turned_reads}
use Rattle.numbers.proofs.EachLaws.{length_numbers}
use Rattle.numbers.proofs.Equations.{rows_zero, rows_suc, all_finite_nil, all_finite_cons, start_of_is}
use Rattle.numbers.proofs.GatheredLaws.{finite_append}
use Rattle.numbers.proofs.ListLaws.{through}
use Rattle.numbers.proofs.TransposedLaws.{reads_low}
use Rattle.numbers.proofs.Tutorial.{numbers_rows, turned_reads_lem, number_no, start_columns}
use Rattle.lattice.specs.Lattice.{FullLattice}
use Rattle.operators.specs.LevelLists.{edges_on}
use Rattle.operators.specs.Levels.{forward_at, turned_at}
use Rattle.operators.proofs.RangeLaws.{fine_edges_lem}
use Rattle.store.specs.Setup.{forward_numbers, turned_numbers}
use Rattle.operators.proofs.Equations.{turned_at_is}

finite_at : (vs : List C64) → all_finite vs ≡ true → (q : ℕ) (d : C64) → q < length vs → finite (get_or vs q d) ≡ true
finite_at [] e q d h = absurd (omega arith)
finite_at (v ∷ vs) e zero d h = (and_parts (finite v) (all_finite vs) (sym (all_finite_cons v vs) ∙ e)).0
finite_at (v ∷ vs) e (suc q) d h = finite_at vs ((and_parts (finite v) (all_finite vs) (sym (all_finite_cons v vs) ∙ e)).1) q d (omega arith)

finite_map : (g : ℕ → C64) (qs : List ℕ) → ((q : ℕ) → In q qs → finite (g q) ≡ true) → all_finite (map g qs) ≡ true
finite_map g [] h = all_finite_nil
finite_map g (q ∷ qs) h = all_finite_cons (g q) (map g qs) ∙ and_from (finite (g q)) (all_finite (map g qs)) (h q (inl refl)) (finite_map g qs (λ p i. h p (inr i)))

finite_rows : (vs : ℕ → List C64) → ((r : ℕ) → all_finite (vs r) ≡ true) → (n : ℕ) → all_finite (rows vs n) ≡ true
finite_rows vs h zero = ap all_finite (rows_zero vs) ∙ all_finite_nil
finite_rows vs h (suc n) = ap all_finite (rows_suc vs n) ∙ finite_append (rows vs n) (vs n) ∙ and_from (all_finite (rows vs n)) (all_finite (vs n)) (finite_rows vs h n) (h n)

turns : (row : ℕ → List Term) (n : ℕ) → all_finite (numbers_of (rows row n)) ≡ true → (c : ℕ) → all_finite (numbers_of (turned_row row n c)) ≡ true
turns row n e c =
    let cols = through columns_of row in
    ap all_finite (turned_reads_lem row n c no_number)
    ∙ finite_map (number_no row n no_number) (turned_reads cols n c)
    (λ q i. finite_at (numbers_of (rows row n)) e q no_number (omega (arith, reads_low cols c n q i, start_columns row n, start_of_is row n, length_numbers (rows row n))))

pub turned_fine : (l : FullLattice) (f : ℕ → C64) (L : ℕ) → all_finite (forward_numbers l f L) ≡ true → all_finite (turned_numbers l f L) ≡ true
turned_fine l f L e =
    ap all_finite (numbers_rows (turned_at l f L) (edges_on l (suc L)))
    ∙ finite_rows (through numbers_of (turned_at l f L)) (λ c. rw (turned_at_is l f L, fine_edges_lem l L) (turns (forward_at l f L) (edges_on l L) e c)) (edges_on l (suc L))
