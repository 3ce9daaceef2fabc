-- Columns with numbers that are looked up. Assumes nothing.
use Prim.Native.Nat.{ℕ, suc, ◌+◌, ◌≤◌, ◌<◌}
use mathlib.Core.Path.{◌≡◌, refl, ap, ◌∙◌}
use mathlib.Core.List.{List, [], ◌∷◌}
use native.Mathlib.Omega.{arith}
use lib.ListN.{length, get_or}
use Rattle.numbers.specs.declared.C64.{C64}
use Rattle.numbers.specs.Terms.{Term, columns_of, numbers_of}
use Rattle.numbers.proofs.Equations.{columns_of_nil, columns_of_cons, numbers_of_cons}
use Rattle.store.specs.Rows.{dressed}

pub columns_dressed : (cs : List ℕ) (h : ℕ → C64) (k : ℕ) → columns_of (dressed cs h k) ≡ cs
unfolding dressed
columns_dressed [] h k = columns_of_nil
columns_dressed (c ∷ cs) h k = columns_of_cons _ (dressed cs h (suc k)) ∙ ap (λ (ds : List ℕ). c ∷ ds) (columns_dressed cs h (suc k))

pub dressed_same : (cs : List ℕ) (h g : ℕ → C64) (k : ℕ) → ((q : ℕ) → k ≤ q → q < k + length cs → h q ≡ g q) → dressed cs h k ≡ dressed cs g k
unfolding dressed
dressed_same [] h g k e = refl
dressed_same (c ∷ cs) h g k e =
    λ i. record { column = c; number = e k (omega arith) (omega arith) i } ∷ dressed_same cs h g (suc k) (λ q a b. e q (omega arith) (omega arith)) i

pub dressed_is : (ts : List Term) (h : ℕ → C64) (k : ℕ) (d : C64) → ((j : ℕ) → j < length ts → h (k + j) ≡ get_or (numbers_of ts) j d) → dressed (columns_of ts) h k ≡ ts
unfolding dressed
dressed_is [] h k d e = ap (λ (cs : List ℕ). dressed cs h k) columns_of_nil
dressed_is (t ∷ ts) h k d e =
    let z : k + 0 ≡ k = omega arith in
    let a : h k ≡ t.number = (rw z at (e 0 (omega arith))) ∙ ap (λ (vs : List C64). get_or vs 0 d) (numbers_of_cons t ts) in
    let b = dressed_is ts h (suc k) d
    (λ j q. let s : suc k + j ≡ k + suc j = omega arith in rw s (e (suc j) (omega arith) ∙ ap (λ (vs : List C64). get_or vs (suc j) d) (numbers_of_cons t ts))) in
    ap (λ (cs : List ℕ). dressed cs h k) (columns_of_cons t ts) ∙ (λ i. record { column = t.column; number = a i } ∷ b i)
