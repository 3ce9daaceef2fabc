-- 11: a store passes just where its starts, columns and ends are the lattice's; and a run keeps them. Assumes nothing.
use Prim.Native.Nat.{ℕ, zero, suc, ◌+◌, ◌*◌, ◌/◌, ◌%◌, ◌≤◌, ◌<◌}
use mathlib.Core.Path.{◌≡◌, refl, sym, ◌∙◌}
use mathlib.Core.Bool.{Bool, true, false, ◌&&◌, ◌||◌, cond, false≢true}
use mathlib.Core.List.{List, []}
use native.Mathlib.Omega.{arith}
use lib.Dec.{leb, ltb}
use lib.ListN.{length, get_or}
use borrow.Author.Tests.{le-ltb, lt-leb, leb-false, ltb-false}
use Rattle.std.proofs.lemmas.Bool.{and_from, and_parts}
use Rattle.numbers.specs.declared.terms.Part.{Part}
use Rattle.numbers.specs.Lists.{rows, starts_of}
use Rattle.lattice.specs.Check.{accepted, is_sound}
use Rattle.lattice.specs.Grid.{Limits}
use Rattle.lattice.specs.Lattice.{FullLattice}
use Rattle.operators.specs.LevelLists.{edges_on}
use Rattle.store.specs.Plan.{Free, run}
use Rattle.store.specs.Store.{Store}
use Rattle.store.specs.Places.{Place, get, ends_at, forward_starts_at, forward_columns_at, turned_starts_at, turned_columns_at, operator_starts_at, operator_columns_at}
use Rattle.store.specs.Layout.{forward_cols, turned_cols, operator_cols, next_edges, first_stored, forward_off, turned_off, operator_off, starts_off, stored_starts, ends_off}
use Rattle.store.specs.declared.Choice.{Choice}
use Rattle.store.specs.Rows.{rules, full}
use Rattle.store.specs.Setup.{ends_part, forward_starts_of, forward_cols_of, turned_starts_of, turned_cols_of, operator_starts_of, operator_cols_of, all_to}
use Rattle.store.specs.Phases.{forward_part, turned_part, operator_part}
use Rattle.store.specs.Work.{RowsAt, Structured}
use Rattle.store.specs.Calls.{matches, ends_match, transfer_matches, level_matches}
use Rattle.store.proofs.MatchLaws.{matches_all, matches_told}
use Rattle.store.proofs.PlanLaws.{in_stands, run_keeps}
use Rattle.store.proofs.RangeLaws.{ranges}
use Rattle.store.proofs.StoreLaws.{rank, rank_some, stands, laws}
use Rattle.store.proofs.VerdictLaws.{all_pass, pass_all}
use Rattle.numbers.proofs.PartLaws.{cols_long, starts_at, starts_long}

-- ---- a store with the lattice's structure passes

matches_starts : (cols : ℕ → List ℕ) (n : ℕ) (o : Part) (ss cs : List ℕ) → RowsAt cols n o ss cs → matches ss o.s (starts_of cols n) ≡ true
matches_starts cols n o ss cs w =
    matches_all ss o.s (starts_of cols n)
    (λ j i e b. let h : j ≤ n = omega (arith, starts_long cols n) in rw e (w.starts_are j h ∙ sym (starts_at cols n j h)))

matches_cols : (cols : ℕ → List ℕ) (n : ℕ) (o : Part) (ss cs : List ℕ) → RowsAt cols n o ss cs → matches cs o.k (rows cols n) ≡ true
matches_cols cols n o ss cs w = matches_all cs o.k (rows cols n) (λ j i e b. rw e (w.columns_are j (omega (arith, cols_long cols n))))

matches_if : (b : Bool) (cs : List ℕ) (k : ℕ) (vs : List ℕ) → (b ≡ false → matches cs k vs ≡ true) → matches cs k (cond b [] vs) ≡ true
unfolding matches
matches_if true cs k vs h = refl
matches_if false cs k vs h = h refl

or_if : (a b : Bool) → (a ≡ false → b ≡ true) → (a || b) ≡ true
or_if true b h = refl
or_if false b h = h refl

module _ (l : FullLattice) (ch : Choice) (m : ℕ) (s : Store) (w : Structured l ch m s) where
  line_matches : (q : ℕ) → q < 3 * suc m → matches s.ends (ends_off l q) (ends_part l q) ≡ true
  line_matches q h = matches_all s.ends (ends_off l q) (ends_part l q) (λ j i e b. rw e (w.ends_are q j h b))

  level_matches_lem : (L : ℕ) → L ≤ m → level_matches l ch m s L ≡ true
  unfolding level_matches
  level_matches_lem L h =
      and_from _ _
      (and_from _ _ (line_matches (3 * L) (omega arith)) (and_from _ _ (line_matches (3 * L + 1) (omega arith)) (line_matches (3 * L + 2) (omega arith))))
      (and_from _ _
      (or_if (leb m L) _ (λ f. let b : L < m = leb_low f in
      let u = w.forward_are L b in
      let v = w.turned_are L b in
      and_from _ _ (matches_starts (forward_cols l L) (edges_on l L) (forward_part l L) s.forward_starts s.forward_columns u)
      (and_from _ _ (matches_cols (forward_cols l L) (edges_on l L) (forward_part l L) s.forward_starts s.forward_columns u)
      (and_from _ _ (matches_starts (turned_cols l L) (edges_on l (suc L)) (turned_part l L) s.turned_starts s.turned_columns v)
      (matches_cols (turned_cols l L) (edges_on l (suc L)) (turned_part l L) s.turned_starts s.turned_columns v)))))
      (and_from _ _
      (matches_if (ltb L (first_stored m)) s.operator_starts (stored_starts l m L) (starts_of (operator_cols l ch L) (edges_on l L))
      (λ f. matches_starts (operator_cols l ch L) (edges_on l L) (operator_part l ch m L) s.operator_starts s.operator_columns (w.operator_are L (ltb-false L (first_stored m) f) h)))
      (matches_if (ltb L (first_stored m)) s.operator_columns (operator_off l ch m L) (rows (operator_cols l ch L) (edges_on l L))
      (λ f. matches_cols (operator_cols l ch L) (edges_on l L) (operator_part l ch m L) s.operator_starts s.operator_columns (w.operator_are L (ltb-false L (first_stored m) f) h)))))
    where
      leb_low : leb m L ≡ false → L < m
      leb_low f = leb-false m L f

  pub nothing_differs : all_to 11 (level_matches l ch m s) (suc m) ≡ accepted 0
  nothing_differs = all_pass 11 (level_matches l ch m s) (suc m) (λ L b. level_matches_lem L (omega arith))

-- ---- and a store that passes 11 has the lattice's structure

either_told : (a b : Bool) → (a || b) ≡ true → a ≡ false → b ≡ true
either_told true b h f = absurd (false≢true (sym f))
either_told false b h f = h

module _ (l : FullLattice) (ch : Choice) (m : ℕ) (s : Store) where
  abbrev lines_match : ℕ → Bool
  lines_match L = ends_match l s (3 * L) && (ends_match l s (3 * L + 1) && ends_match l s (3 * L + 2))

  abbrev operator_match : ℕ → Bool
  operator_match L = matches s.operator_starts (stored_starts l m L) (operator_starts_of l ch m L) && matches s.operator_columns (operator_off l ch m L) (operator_cols_of l ch m L)

  rows_told : (cols : ℕ → List ℕ) (n : ℕ) (o : Part) (ss cs : List ℕ) → matches ss o.s (starts_of cols n) ≡ true → matches cs o.k (rows cols n) ≡ true → RowsAt cols n o ss cs
  rows_told cols n o ss cs x y =
      record {
        starts_are = λ r b. matches_told ss o.s (starts_of cols n) x r (o.s + r) refl (omega (arith, starts_long cols n)) ∙ starts_at cols n r b;
        columns_are = λ q b. matches_told cs o.k (rows cols n) y q (o.k + q) refl (omega (arith, cols_long cols n));
      }

  pub differs_none : is_sound (all_to 11 (level_matches l ch m s) (suc m)) ≡ true → Structured l ch m s
  differs_none h =
      record {
        ends_are = λ q j b i. line q (q / 3) (q % 3) (omega arith) (omega arith) (omega arith) j i;
        forward_are = λ L b.
            let t = transfer L b in
            let u = and_parts _ _ t in
            rows_told (forward_cols l L) (edges_on l L) (forward_part l L) s.forward_starts s.forward_columns u.0 (and_parts _ _ u.1).0;
        turned_are = λ L b.
            let t = transfer L b in
            let a1 = matches s.forward_starts (starts_off (edges_on l) L) (forward_starts_of l L) in
            let a2 = matches s.forward_columns (forward_off l L) (forward_cols_of l L) in
            let a3 = matches s.turned_starts (starts_off (next_edges l) L) (turned_starts_of l L) in
            let a4 = matches s.turned_columns (turned_off l L) (turned_cols_of l L) in
            let u = and_parts a3 a4 (and_parts a2 (a3 && a4) (and_parts a1 (a2 && (a3 && a4)) t).1).1 in
            rows_told (turned_cols l L) (edges_on l (suc L)) (turned_part l L) s.turned_starts s.turned_columns u.0 u.1;
        operator_are = λ L k b.
            let e : ltb L (first_stored m) ≡ false = le-ltb L (first_stored m) k in
            let t = level L (omega arith) in
            let u = and_parts (leb m L || transfer_matches l s L) (operator_match L) t.1 in
            let v = and_parts _ _ u.1 in
            rows_told (operator_cols l ch L) (edges_on l L) (operator_part l ch m L) s.operator_starts s.operator_columns
            (there e s.operator_starts (stored_starts l m L) (starts_of (operator_cols l ch L) (edges_on l L)) v.0)
            (there e s.operator_columns (operator_off l ch m L) (rows (operator_cols l ch L) (edges_on l L)) v.1);
      }
    where
      level : (L : ℕ) → L < suc m → (lines_match L ≡ true) × (((leb m L || transfer_matches l s L) && operator_match L) ≡ true)
      level L b = unfold level_matches in and_parts (lines_match L) _ (pass_all 11 (level_matches l ch m s) (suc m) h L b)

      there : {b : Bool} → b ≡ false → (cs : List ℕ) (k : ℕ) (vs : List ℕ) → matches cs k (cond b [] vs) ≡ true → matches cs k vs ≡ true
      there e cs k vs x = rw e at x

      transfer : (L : ℕ) → L < m → transfer_matches l s L ≡ true
      transfer L b =
          let t = level L (omega arith) in
          let u = and_parts (leb m L || transfer_matches l s L) (operator_match L) t.1 in
          either_told (leb m L) (transfer_matches l s L) u.0 (lt-leb m L b)

      line : (q L a : ℕ) → q ≡ 3 * L + a → a < 3 → L < suc m → (j : ℕ) → j < length (ends_part l q) → get_or s.ends (ends_off l q + j) 0 ≡ get_or (ends_part l q) j 0
      line q L a e c b j i =
          let t = level L b in
          let u = and_parts _ _ t.0 in
          let v = and_parts _ _ u.1 in
          go a c e u.0 v.0 v.1
        where
          go : (a : ℕ) → a < 3 → q ≡ 3 * L + a → matches s.ends (ends_off l (3 * L)) (ends_part l (3 * L)) ≡ true → matches s.ends (ends_off l (3 * L + 1)) (ends_part l (3 * L + 1)) ≡ true
              → matches s.ends (ends_off l (3 * L + 2)) (ends_part l (3 * L + 2)) ≡ true → get_or s.ends (ends_off l q + j) 0 ≡ get_or (ends_part l q) j 0
          go zero c e x y z = let k : 3 * L ≡ q = omega arith in matches_told s.ends (ends_off l q) (ends_part l q) (rw k at x) j (ends_off l q + j) refl i
          go (suc zero) c e x y z = let k : 3 * L + 1 ≡ q = omega arith in matches_told s.ends (ends_off l q) (ends_part l q) (rw k at y) j (ends_off l q + j) refl i
          go (suc (suc zero)) c e x y z = let k : 3 * L + 2 ≡ q = omega arith in matches_told s.ends (ends_off l q) (ends_part l q) (rw k at z) j (ends_off l q + j) refl i
          go (suc (suc (suc a))) c e x y z = absurd (omega arith)

-- ---- a run keeps the structure

structure_same : (l : FullLattice) (ch : Choice) (m : ℕ) (s t : Store) → ((j : ℕ) → get_or t.ends j 0 ≡ get_or s.ends j 0) → ((j : ℕ) → get_or t.forward_starts j 0 ≡ get_or s.forward_starts j 0)
    → ((j : ℕ) → get_or t.forward_columns j 0 ≡ get_or s.forward_columns j 0) → ((j : ℕ) → get_or t.turned_starts j 0 ≡ get_or s.turned_starts j 0)
    → ((j : ℕ) → get_or t.turned_columns j 0 ≡ get_or s.turned_columns j 0) → ((j : ℕ) → get_or t.operator_starts j 0 ≡ get_or s.operator_starts j 0)
    → ((j : ℕ) → get_or t.operator_columns j 0 ≡ get_or s.operator_columns j 0) → Structured l ch m s → Structured l ch m t
structure_same l ch m s t a b c d e f g w =
    record {
      ends_are = λ q j h i. a (ends_off l q + j) ∙ w.ends_are q j h i;
      forward_are = λ L h. record { starts_are = λ r i. b _ ∙ (w.forward_are L h).starts_are r i; columns_are = λ q i. c _ ∙ (w.forward_are L h).columns_are q i };
      turned_are = λ L h. record { starts_are = λ r i. d _ ∙ (w.turned_are L h).starts_are r i; columns_are = λ q i. e _ ∙ (w.turned_are L h).columns_are q i };
      operator_are = λ L k h. record { starts_are = λ r i. f _ ∙ (w.operator_are L k h).starts_are r i; columns_are = λ q i. g _ ∙ (w.operator_are L k h).columns_are q i };
    }

module _ (l : FullLattice) (ch : Choice) (m : ℕ) (limits : Limits l.grid) where
  plain_free : (p : Place) → rank l ch m p ≡ 0 → Free (rules l ch m) p
  plain_free p z s =
      let t = in_stands (rules l ch m) (full l ch m) p s in
      omega (arith, z, (stands l ch m t.0 t.1 p t.2).0, rank_some l ch m t.0)

  pub run_structured : (s : Store) → Structured l ch m s → Structured l ch m (run (rules l ch m) (full l ch m) s)
  unfolding get
  run_structured s =
      let keep : (p : Place) → rank l ch m p ≡ 0 → get (run (rules l ch m) (full l ch m) s) p ≡ get s p =
      λ p z. run_keeps (laws l ch m (ranges l limits)) (full l ch m) s p (plain_free p z) in
      structure_same l ch m s (run (rules l ch m) (full l ch m) s) (λ j. keep (ends_at j) refl) (λ j. keep (forward_starts_at j) refl) (λ j. keep (forward_columns_at j) refl)
      (λ j. keep (turned_starts_at j) refl) (λ j. keep (turned_columns_at j) refl) (λ j. keep (operator_starts_at j) refl) (λ j. keep (operator_columns_at j) refl)
