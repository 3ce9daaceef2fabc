-- The first level that fails a test, from what three parts of the test say.
-- Assumes nothing.
use Rattle.std.proofs.Common.{◌≡◌, ℕ, suc, ◌<◌, Bool, Option, Some, None, min, IfSome, unwrap_or}
use Rattle.lattice.specs.Lattice.{FullLattice}
use Rattle.store.specs.Calls.{level_matches}
use Rattle.store.specs.Compare.{Lowest, lines_match, transfer_ok, operator_ok}
use Rattle.store.specs.FillSteps.{FirstBad}
use Rattle.store.specs.Store.{Store}
use Rattle.store.specs.declared.Choice.{Choice}
use Rattle.store.proofs.CompareLaws.{first_is}
use Rattle.changes.specs.First.{LowestIn, FirstBadIn}

lowest_of : (ok : ℕ → Bool) (n : ℕ) (r : Option ℕ) → LowestIn ok n r → Lowest ok n (unwrap_or r n)
lowest_of ok n None u = u
lowest_of ok n (Some L) u = u.1

below_of : (ok : ℕ → Bool) (n : ℕ) (r : Option ℕ) → LowestIn ok n r → IfSome r (λ L. L < n)
below_of ok n None u = tt
below_of ok n (Some L) u = u.0

bad_of : (number : ℕ) (ok : ℕ → Bool) (n : ℕ) (r : Option ℕ) → IfSome r (λ L. L < n) → FirstBad number ok n (unwrap_or r n) → FirstBadIn number ok n r
bad_of number ok n None h u = u
bad_of number ok n (Some L) h u = (h, u)

abbrev Earlier : Option ℕ → Option ℕ → Option ℕ → Type 0
Earlier a b r = (n : ℕ) → IfSome a (λ L. L < n) → IfSome b (λ L. L < n) → IfSome r (λ L. L < n) × (unwrap_or r n ≡ min (unwrap_or a n) (unwrap_or b n))

-- the least of the three is the first level that differs
pub first_in : (l : FullLattice) (ch : Choice) (m : ℕ) (s : Store) (x y z r k : Option ℕ) → LowestIn (lines_match l s.ends) (suc m) x
    → LowestIn (transfer_ok l m s.forward_starts s.forward_columns s.turned_starts s.turned_columns) (suc m) y
    → LowestIn (operator_ok l ch m s.operator_starts s.operator_columns) (suc m) z
    → Earlier y z k → Earlier x k r → FirstBadIn 11 (level_matches l ch m s) (suc m) r
first_in l ch m s x y z r k u v w p q =
    let e = lines_match l s.ends in
    let f = transfer_ok l m s.forward_starts s.forward_columns s.turned_starts s.turned_columns in
    let g = operator_ok l ch m s.operator_starts s.operator_columns in
    let a = p (suc m) (below_of f (suc m) y v) (below_of g (suc m) z w) in
    let b = q (suc m) (below_of e (suc m) x u) a.0 in
    bad_of 11 (level_matches l ch m s) (suc m) r b.0 (first_is l ch m s (lowest_of e (suc m) x u) (lowest_of f (suc m) y v) (lowest_of g (suc m) z w) a.1 b.1)
