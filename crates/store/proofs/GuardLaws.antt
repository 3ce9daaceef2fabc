-- Rows worked out under a guard: at the bottom, and in a call that has saved some doubles more.
-- Assumes nothing.
use Prim.Native.Nat.{ℕ, suc, ◌+◌, ◌≤◌, ◌<◌}
use mathlib.Core.Path.{◌≡◌, refl, sym, ap, subst, ◌∙◌}
use mathlib.Core.Logic.{◌⊎◌, inl, inr, ⊎_elim}
use mathlib.Core.List.{List, [], ◌∷◌, ◌++◌, map}
use native.Mathlib.Omega.{arith}
use lib.ListN.{length, get_or, take, drop, length-drop, take-append-drop}
use lib.Seq.{get_or-take, length-take-le}
use lib.Ieee.{Float, nan}
use Rattle.numbers.specs.Lists.{In}
use Rattle.numbers.proofs.MemberLaws.{in_append, in_left, in_right}
use Rattle.lattice.specs.Lattice.{FullLattice}
use Rattle.store.specs.Cells.{Cell, no_cell, place_of, chosen, double_at, set_double, Kept, put_cells}
use Rattle.store.specs.Guard.{Guarded}
use Rattle.store.specs.Places.{Place, get, put, space}
use Rattle.store.specs.Plan.{Stands}
use Rattle.store.specs.Renewed.{Fixed, Five, store_of, Renewed, Restored}
use Rattle.store.specs.Rows.{Row, rules}
use Rattle.store.specs.Space.{Space, Look, puts}
use Rattle.store.specs.Spots.{Kind, permittivity, forwards, turneds, entries, scales, place}
use Rattle.store.specs.Store.{Store}
use Rattle.store.specs.declared.Choice.{Choice}
use Rattle.store.proofs.SpaceLaws.{lawful}
use Rattle.store.proofs.WorkedLaws.{worked_back}

-- ---- doubles put back are places put back

put_double : (ends : List ℕ) (x : Fixed) (v s : Five) (k : Kind) (j : ℕ) (y : Float) → y ≡ get_or (chosen s k) j nan
    → store_of ends x (set_double v k j y) ≡ put (store_of ends x v) (place k j) (get (store_of ends x s) (place k j))
unfolding put get
put_double ends x v s permittivity j y e = ap (λ (z : Float). store_of ends x (set_double v permittivity j z)) e
put_double ends x v s forwards j y e = ap (λ (z : Float). store_of ends x (set_double v forwards j z)) e
put_double ends x v s turneds j y e = ap (λ (z : Float). store_of ends x (set_double v turneds j z)) e
put_double ends x v s entries j y e = ap (λ (z : Float). store_of ends x (set_double v entries j z)) e
put_double ends x v s scales j y e = ap (λ (z : Float). store_of ends x (set_double v scales j z)) e

put_cells_lem : (ends : List ℕ) (x : Fixed) (v s : Five) (ds : List Cell) (old : List Float) (j : ℕ) → ((i : ℕ) → i < length ds → get_or old (j + i) nan ≡ double_at s (get_or ds i no_cell))
    → store_of ends x (put_cells v ds old j) ≡ puts space (store_of ends x v) (map place_of ds) (get (store_of ends x s))
unfolding put_cells puts
put_cells_lem ends x v s [] old j h = refl
put_cells_lem ends x v s (d ∷ ds) old j h =
    let z : j + 0 ≡ j = omega arith in
    let first : get_or old j nan ≡ double_at s d = ap (λ (k : ℕ). get_or old k nan) (sym z) ∙ h 0 (omega arith) in
    put_cells_lem ends x (set_double v d.kind d.index (get_or old j nan)) s ds old (suc j)
    (λ i b. let y : suc j + i ≡ j + suc i = omega arith in ap (λ (k : ℕ). get_or old k nan) y ∙ h (suc i) (omega arith))
    ∙ ap (λ (t : Store). puts space t (map place_of ds) (get (store_of ends x s))) (put_double ends x v s d.kind d.index (get_or old j nan) first)

kept_puts : (ends : List ℕ) (x : Fixed) (v s : Five) (ds : List Cell) (n : ℕ) (old : List Float) → n ≤ length ds → Kept s ds n old
    → store_of ends x (put_cells v (take n ds) old 0) ≡ puts space (store_of ends x v) (map place_of (take n ds)) (get (store_of ends x s))
kept_puts ends x v s ds n old h k =
    put_cells_lem ends x v s (take n ds) old 0
    (λ i b.
    let c : i < n = omega (arith, length-take-le n ds h) in
    let z : 0 + i ≡ i = omega arith in
    ap (λ (j : ℕ). get_or old j nan) z ∙ k.same i c ∙ sym (ap (double_at s) (get_or-take n ds i no_cell c)))

-- ---- one call's places in front of its callers'

puts_append : (X : Space) (s : X.S) (ps qs : List X.P) (g : Look X) → puts X s (ps ++ qs) g ≡ puts X (puts X s ps g) qs g
unfolding puts
puts_append X s [] qs g = refl
puts_append X s (p ∷ ps) qs g = puts_append X (X.put s p (g p)) ps qs g

map_append : (ds es : List Cell) → map place_of (ds ++ es) ≡ map place_of ds ++ map place_of es
map_append [] es = refl
map_append (d ∷ ds) es = ap (λ (ps : List Place). place_of d ∷ ps) (map_append ds es)

cover : (n : ℕ) (ds : List Cell) (ps : List Place) (p : Place) → In p ps ⊎ In p (map place_of ds) → In p (map place_of (take n ds) ++ ps) ⊎ In p (map place_of (drop n ds))
cover n ds ps p (inl i) = inl (in_right p (map place_of (take n ds)) ps i)
cover n ds ps p (inr i) =
    let e : map place_of ds ≡ map place_of (take n ds) ++ map place_of (drop n ds) = ap (map place_of) (sym (take-append-drop n ds)) ∙ map_append (take n ds) (drop n ds) in
    ⊎_elim (λ j. inl (in_left p (map place_of (take n ds)) ps j)) (λ j. inr j) (in_append p (map place_of (take n ds)) (map place_of (drop n ds)) (subst (λ (qs : List Place). In p qs) e i))

-- ---- THE GUARD

module _ (l : FullLattice) (ch : Choice) (m : ℕ) (x : Fixed) (rs : List Row) where
  -- all is saved
  pub guard_end : (ds : List Cell) (v : Five) (n : ℕ) (u : Five) → ds ≡ [] → Renewed l ch m x rs v n u → Guarded l ch m x rs ds v n u
  guard_end ds v n u e r =
      record {
        left = λ ends w ps sub.
            let a = r.worked ends w in
            record {
              told = a.told;
              done = a.done;
              back = λ k. worked_back (rules l ch m) lawful rs (store_of ends x v) (store_of ends x u) n ps
                  (λ p i. ⊎_elim (λ j. j) (λ j. absurd (subst (λ (qs : List Cell). In p (map place_of qs)) e j)) (sub p i)) a;
            };
      }

  -- k doubles more are saved, and need not be put back
  pub guard_good : (ds es : List Cell) (k : ℕ) (v u : Five) (n : ℕ) → n ≡ 0 → es ≡ drop k ds → Guarded l ch m x rs es v n u → Guarded l ch m x rs ds v 0 u
  guard_good ds es k v u n z q g =
      record {
        left = λ ends w ps sub.
            let a = g.left ends w (map place_of (take k ds) ++ ps) (λ p i. subst (λ (fs : List Cell). In p (map place_of (take k ds) ++ ps) ⊎ In p (map place_of fs)) (sym q) (cover k ds ps p (sub p i))) in
            record { told = sym z ∙ a.told; done = λ _. a.done z; back = λ y. absurd (y refl) };
      }

  -- they are put back
  pub guard_back : (ds es : List Cell) (k : ℕ) (v t u : Five) (n : ℕ) (old : List Float) → (n ≡ 0 → ⊥) → es ≡ drop k ds → k ≤ length ds → Kept v ds k old
      → Guarded l ch m x rs es v n t → u ≡ put_cells t (take k ds) old 0 → Guarded l ch m x rs ds v n u
  guard_back ds es k v t u n old z q h kept g e =
      record {
        left = λ ends w ps sub.
            let s = store_of ends x v in
            let a = g.left ends w (map place_of (take k ds) ++ ps) (λ p i. subst (λ (fs : List Cell). In p (map place_of (take k ds) ++ ps) ⊎ In p (map place_of fs)) (sym q) (cover k ds ps p (sub p i))) in
            let b : store_of ends x u ≡ puts space (store_of ends x t) (map place_of (take k ds)) (get s) = ap (store_of ends x) e ∙ kept_puts ends x t v ds k old h kept in
            record {
              told = a.told;
              done = λ y. absurd (z y);
              back = λ y. ap (λ (q : Store). puts space q ps (get s)) b ∙ sym (puts_append space (store_of ends x t) (map place_of (take k ds)) ps (get s)) ∙ a.back y;
            };
      }

  -- all of the rows' places are yet to be saved
  pub guard_whole : (ds : List Cell) (v : Five) (n : ℕ) (u : Five) → ((p : Place) → Stands (rules l ch m) p rs → In p (map place_of ds)) → Guarded l ch m x rs ds v n u → Restored l ch m x rs v n u
  unfolding puts
  guard_whole ds v n u sub g =
      record {
        tried = λ ends w.
            let a = g.left ends w [] (λ p i. inr (sub p i)) in
            record { told = a.told; done = a.done; back = a.back };
      }

-- ---- calls fall

pub fewer : (ds es : List Cell) (n : ℕ) → es ≡ drop n ds → 0 < n → n ≤ length ds → length es < length ds
fewer ds es n e h g = omega (arith, ap length e, length-drop n ds)
