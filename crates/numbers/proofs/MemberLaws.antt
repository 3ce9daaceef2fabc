-- Members of a list, of lists one behind another and of the columns of rows; lists that rise: two with the same members are equal.
-- Assumes nothing.
use Prim.Native.Nat.{ℕ, zero, suc, ◌+◌, ◌*◌, ◌<◌, ◌≤◌}
use mathlib.Core.Path.{◌≡◌, refl, sym, subst}
use mathlib.Core.Logic.{◌⊎◌, inl, inr, ⊎_elim}
use mathlib.Core.Bool.{true, false≢true}
use mathlib.Core.List.{List, [], ◌∷◌, ◌++◌}
use native.Mathlib.Omega.{arith}
use native.Mathlib.Decide.{ℕ_discrete}
use native.Mathlib.Nat.{le_refl, suc-mul, zero-mul}
use borrow.Author.Tests.{eq-eqb, eqb-true}
use lib.Dec.{eqb}
use Rattle.std.proofs.lemmas.Bool.{or_cases, or_left, or_right}
use Rattle.numbers.specs.Lists.{In, each, rows, contains}
use Rattle.numbers.specs.Terms.{Term, columns_of}
use Rattle.numbers.proofs.EachLaws.{All, more, columns_append, none}

-- rises strictly, from b on and below e
abbrev pub Span : ℕ → ℕ → List ℕ → Type 0
Span b e [] = b ≤ e
Span b e (v ∷ vs) = (b ≤ v) × Span (suc v) e vs

pub span_wider : (b d e : ℕ) (l : List ℕ) → d ≤ b → Span b e l → Span d e l
span_wider b d e [] h s = omega arith
span_wider b d e (v ∷ l) h s = (omega (arith, s.0), s.1)

pub span_append : (b m e : ℕ) (us vs : List ℕ) → Span b m us → Span m e vs → Span b e (us ++ vs)
span_append b m e [] vs s t = span_wider m b e vs s t
span_append b m e (u ∷ us) vs s t = (s.0, span_append (suc u) m e us vs s.1 t)

pub in_append : {A : Type 0} (c : A) (us vs : List A) → In c (us ++ vs) → In c us ⊎ In c vs
in_append c [] vs i = inr i
in_append c (u ∷ us) vs (inl e) = inl (inl e)
in_append c (u ∷ us) vs (inr i) = ⊎_elim (λ j. inl (inr j)) (λ j. inr j) (in_append c us vs i)

pub in_left : {A : Type 0} (c : A) (us vs : List A) → In c us → In c (us ++ vs)
in_left {A = A} c [] vs x' = elim x' [ ]
in_left c (u ∷ us) vs (inl e) = inl e
in_left c (u ∷ us) vs (inr i) = inr (in_left c us vs i)

pub in_right : {A : Type 0} (c : A) (us vs : List A) → In c vs → In c (us ++ vs)
in_right c [] vs i = i
in_right c (u ∷ us) vs i = inr (in_right c us vs i)

pub in_low : (b e c : ℕ) (l : List ℕ) → Span b e l → In c l → b ≤ c
in_low b e c [] s x'' = elim x'' [ ]
in_low b e c (v ∷ l) s (inl p) = omega (arith, s.0)
in_low b e c (v ∷ l) s (inr i) = omega (arith, s.0, in_low (suc v) e c l s.1 i)

-- the list is the only one
pub unique : (b e d f : ℕ) (us vs : List ℕ) → Span b e us → Span d f vs
    → ((c : ℕ) → In c us → In c vs) → ((c : ℕ) → In c vs → In c us) → us ≡ vs
unique b e d f [] [] s t p q = refl
unique b e d f [] (v ∷ vs) s t p q = absurd (q v (inl refl))
unique b e d f (u ∷ us) [] s t p q = absurd (p u (inl refl))
unique b e d f (u ∷ us) (v ∷ vs) s t p q = go (unique (suc u) e (suc v) f us vs s.1 t.1)
  where
    first : u ≡ v
    first = ⊎_elim (λ a. a)
        (λ i. ⊎_elim (λ a. sym a)
        (λ j. absurd (omega (arith, in_low (suc v) f u vs t.1 i, in_low (suc u) e v us s.1 j)))
        (q v (inl refl)))
        (p u (inl refl))

    there : (c : ℕ) → In c us → In c vs
    there c i = ⊎_elim (λ a. absurd (omega (arith, in_low (suc u) e c us s.1 i, first, a))) (λ j. j) (p c (inr i))

    back : (c : ℕ) → In c vs → In c us
    back c i = ⊎_elim (λ a. absurd (omega (arith, in_low (suc v) f c vs t.1 i, first, a))) (λ j. j) (q c (inr i))

    go : (((c : ℕ) → In c us → In c vs) → ((c : ℕ) → In c vs → In c us) → us ≡ vs) → u ∷ us ≡ v ∷ vs
    go ih = rw (first, ih there back)

-- lists one behind the other, each a step further on
unfoldable pub stack : (ℕ → ℕ → List ℕ) → ℕ → ℕ → ℕ → ℕ → List ℕ
stack f step start zero j = []
stack f step start (suc n) j = f j start ++ stack f step (start + step) n (suc j)

pub stack_zero : (f : ℕ → ℕ → List ℕ) (step start j : ℕ) → stack f step start zero j ≡ []
unfolding stack
stack_zero f step start j = refl

pub stack_suc : (f : ℕ → ℕ → List ℕ) (step start n j : ℕ) → stack f step start (suc n) j ≡ (f j start ++ stack f step (start + step) n (suc j))
unfolding stack
stack_suc f step start n j = refl

module _ (f : ℕ → ℕ → List ℕ) (step : ℕ) where
  pub stack_span : (b e start n j : ℕ) → ((k s : ℕ) → Span s (s + step) (f k s)) → b ≤ start → start + n * step ≤ e → Span b e (stack f step start n j)
  unfolding stack
  stack_span b e start zero j h p q = omega (arith, zero-mul step)
  stack_span b e start (suc n) j h p q =
      span_append b (start + step) e (f j start) (stack f step (start + step) n (suc j))
      (span_wider start b (start + step) (f j start) p (h j start))
      (stack_span (start + step) e (start + step) n (suc j) h (le_refl (start + step)) (omega (arith, suc-mul n step)))

  pub stack_in : (c start n j : ℕ) → In c (stack f step start n j) → (q : ℕ) × (q < n) × In c (f (j + q) (start + q * step))
  unfolding stack
  stack_in c start zero j i = elim i [ ]
  stack_in c start (suc n) j i = go (stack_in c (start + step) n (suc j)) (in_append c (f j start) (stack f step (start + step) n (suc j)) i)
    where
      go : (In c (stack f step (start + step) n (suc j)) → (q : ℕ) × (q < n) × In c (f (suc j + q) (start + step + q * step)))
          → In c (f j start) ⊎ In c (stack f step (start + step) n (suc j)) → (q : ℕ) × (q < suc n) × In c (f (j + q) (start + q * step))
      go ih (inl k) =
          let a : j + 0 ≡ j = omega arith in
          let b : start + 0 * step ≡ start = omega (arith, zero-mul step) in
          (0, omega arith, rw (a, b) k)
      go ih (inr k) =
          let w = ih k in
          let q = w.0 in
          let a : suc j + q ≡ j + suc q = omega arith in
          let b : start + step + q * step ≡ start + suc q * step = omega (arith, suc-mul q step) in
          (suc q, omega (arith, w.1), rw (a, b) at w.2)

  pub in_stack : (c start n j q : ℕ) → q < n → In c (f (j + q) (start + q * step)) → In c (stack f step start n j)
  unfolding stack
  in_stack c start zero j q h i = absurd (omega arith)
  in_stack c start (suc n) j zero h i =
      let a : j + 0 ≡ j = omega arith in
      let b : start + 0 * step ≡ start = omega (arith, zero-mul step) in
      in_left c (f j start) (stack f step (start + step) n (suc j)) (rw (a, b) at i)
  in_stack c start (suc n) j (suc q) h i =
      let a : suc j + q ≡ j + suc q = omega arith in
      let b : start + step + q * step ≡ start + suc q * step = omega (arith, suc-mul q step) in
      in_right c (f j start) (stack f step (start + step) n (suc j)) (in_stack c (start + step) n (suc j) q (omega arith) (rw (a, b) i))

pub contains_in : (c : ℕ) (cs : List ℕ) → contains c cs ≡ true → In c cs
unfolding contains
contains_in c [] h = false≢true h
contains_in c (d ∷ ds) h = ⊎_elim (λ e. inl (sym (eqb-true d c e))) (λ e. inr (contains_in c ds e)) (or_cases (eqb d c) (contains c ds) h)

pub in_contains : (c : ℕ) (cs : List ℕ) → In c cs → contains c cs ≡ true
unfolding contains
in_contains c [] x' = elim x' [ ]
in_contains c (d ∷ ds) (inl e) = or_left _ (contains c ds) (eq-eqb d c (sym e))
in_contains c (d ∷ ds) (inr i) = or_right (eqb d c) _ (in_contains c ds i)

-- the columns of two lists of terms
pub in_both : (c : ℕ) (ts us : List Term) → In c (columns_of (ts ++ us)) → In c (columns_of ts) ⊎ In c (columns_of us)
in_both c ts us i = in_append c (columns_of ts) (columns_of us) (rw (columns_append ts us) at i)

pub both_in : (c : ℕ) (ts us : List Term) → In c (columns_of ts) ⊎ In c (columns_of us) → In c (columns_of (ts ++ us))
both_in c ts us i = rw (columns_append ts us) (⊎_elim (in_left c (columns_of ts) (columns_of us)) (in_right c (columns_of ts) (columns_of us)) i)

-- what holds for all members
pub all_in : {P : ℕ → Type 0} {l : List ℕ} → All P l → (c : ℕ) → In c l → P c
all_in {P = P} none c x3 = elim x3 [ ]
all_in {P} (more p a) c (inl e) = subst P (sym e) p
all_in (more p a) c (inr i) = all_in a c i

-- c is one of those that a member of l gives
pub record Given (f : ℕ → List ℕ) (l : List ℕ) (c : ℕ) : Type 0 where
  pub by : ℕ
  pub there : In by l
  pub gives : In c (f by)

pub each_in : (f : ℕ → List ℕ) (l : List ℕ) (c : ℕ) → In c (each f l) → Given f l c
unfolding each
each_in f [] c i = elim i [ ]
each_in f (v ∷ l) c i = go (each_in f l c) (in_append c (f v) (each f l) i)
  where
    go : (In c (each f l) → Given f l c) → In c (f v) ⊎ In c (each f l) → Given f (v ∷ l) c
    go ih (inl j) = record { by = v; there = inl refl; gives = j }
    go ih (inr j) = let g = ih j in record { by = g.by; there = inr g.there; gives = g.gives }

pub in_each : (f : ℕ → List ℕ) (l : List ℕ) (c m : ℕ) → In m l → In c (f m) → In c (each f l)
unfolding each
in_each f [] c m x'' j = elim x'' [ ]
in_each f (v ∷ l) c m (inl e) j = in_left c (f v) (each f l) (subst (λ (k : ℕ). In c (f k)) e j)
in_each f (v ∷ l) c m (inr i) j = in_right c (f v) (each f l) (in_each f l c m i j)

pub rows_in_lem : (f : ℕ → List Term) (n c : ℕ) → In c (columns_of (rows f n)) → (r : ℕ) × (r < n) × In c (columns_of (f r))
unfolding rows columns_of
rows_in_lem f zero c i = elim i [ ]
rows_in_lem f (suc n) c i = go (rows_in_lem f n c) (in_both c (rows f n) (f n) i)
  where
    go : (In c (columns_of (rows f n)) → (r : ℕ) × (r < n) × In c (columns_of (f r))) → In c (columns_of (rows f n)) ⊎ In c (columns_of (f n))
        → (r : ℕ) × (r < suc n) × In c (columns_of (f r))
    go ih (inl j) = let w = ih j in (w.0, omega (arith, w.1), w.2)
    go ih (inr j) = (n, omega arith, j)

pub in_rows : (f : ℕ → List Term) (n c r : ℕ) → r < n → In c (columns_of (f r)) → In c (columns_of (rows f n))
unfolding rows
in_rows f zero c r h i = absurd (omega arith)
in_rows f (suc n) c r h i = both_in c (rows f n) (f n) (go (in_rows f n c r) (ℕ_discrete r n))
  where
    go : (r < n → In c (columns_of (f r)) → In c (columns_of (rows f n))) → Dec (r ≡ n) → In c (columns_of (rows f n)) ⊎ In c (columns_of (f n))
    go ih (yes e) = inr (subst (λ (k : ℕ). In c (columns_of (f k))) e i)
    go ih (no e) = inl (ih (omega arith) i)
