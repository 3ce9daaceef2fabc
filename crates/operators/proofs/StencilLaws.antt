-- Operator rows from the lattice: how long they are, their diagonal, what of the permittivities they read, and how they are laid into lists.
-- Assumes nothing.
use Prim.Native.Nat.{ℕ, ◌+◌, ◌-◌, ◌*◌, ◌<◌, ◌≤◌}
use mathlib.Core.Path.{◌≡◌, refl, sym, ap, ◌∙◌}
use mathlib.Core.Logic.{inl}
use mathlib.Core.Bool.{Bool, true, false, not, ◌&&◌, ◌||◌, cond, or-true}
use mathlib.Core.List.{List, [], ◌∷◌, ◌++◌, Memᴰ as Member}
use native.Mathlib.Omega.{arith}
use native.Mathlib.Numerals.{add-one}
use borrow.Author.Tests.{not-true, not-false}
use lib.ListN.{length, set, take}
use lib.Ieee.{Float, ne}
use lib.Ieee as Ieee
use Rattle.numbers.specs.declared.C64.{C64}
use Rattle.numbers.specs.Complex.{zero_f}
use Rattle.numbers.specs.Places.{number_at}
use Rattle.numbers.specs.Lists.{tabulate, each, rows, Laid, laid_numbers, all_finite, places_in, contains, start_of, starts_of, Marked}
use Rattle.numbers.specs.Terms.{Term, columns_of, terms_in, Wrote, Below, numbers_of, LaidRows}
use Rattle.numbers.specs.Collect.{inserted, collected, at_first}
use Rattle.numbers.proofs.Equations.{collected_nil, collected_cons, rows_zero, rows_suc, numbers_of_nil, all_finite_nil, start_of_is}
use Rattle.numbers.proofs.TermLaws.{Holds, length_in, columns_held, wrote_none, wrote_append, wrote_columns, wrote_numbers, wrote_most}
use Rattle.numbers.proofs.ListLaws.{laid_append, laid_same, starts_first, starts_more}
use Rattle.numbers.proofs.EachLaws.{numbers_append, length_columns}
use Rattle.numbers.proofs.MemberLaws.{in_contains}
use Rattle.numbers.proofs.CollectLaws.{length_collected, length_kept}
use Rattle.numbers.proofs.InsertLaws.{Stands, stands_over, stands_wrote, wrote_stands}
use Rattle.lattice.specs.Lattice.{FullLattice}
use Rattle.lattice.specs.Neighbours.{is_fixed}
use Rattle.lattice.specs.Curls.{divergence_of, gradient_of}
use Rattle.lattice.specs.Rows.{free_of, free_columns, row_into, row_reads}
use Rattle.lattice.proofs.RowLaws.{row_most, row_local}
use Rattle.lattice.proofs.Equations.{free_of_nil, free_of_cons, free_columns_is}
use Rattle.operators.specs.Stencil.{shift_number, shift_terms, stencil_row, stencil_reads}
use Rattle.numbers.proofs.GatheredLaws.{in_collected, in_gathered, places_held, numbers_held, finite_append}
use Rattle.numbers.proofs.MarkedLaws.{marked_nil, marked_one, marked_append, marked_as}
use Rattle.lattice.proofs.ColumnLaws.{row_own, row_reads_lem, own_read}

-- the shift as a term
abbrev shift_term : FullLattice → (ℕ → C64) → ℕ → Term
shift_term l f r = record { column = r; number = shift_number l f r }

-- ---- how long

shift_most : (l : FullLattice) (f : ℕ → C64) (r : ℕ) → length (shift_terms l f r) ≤ 1
unfolding shift_terms
shift_most l f r = go (Ieee.eq l.shift zero_f || is_fixed l r)
  where
    go : (b : Bool) → length (cond b [] (shift_term l f r ∷ [])) ≤ 1
    go true = omega arith
    go false = omega arith

pub unshifted_most : (l : FullLattice) (f : ℕ → C64) (r : ℕ) → length (collected at_first [] (row_into l f r)) ≤ 29
unshifted_most l f r = omega (arith, length_collected at_first [] (row_into l f r), row_most l f r)

pub stencil_most : (l : FullLattice) (f : ℕ → C64) (r : ℕ) → length (stencil_row l f r) ≤ 30
unfolding stencil_row
stencil_most l f r =
    omega (arith, length_collected at_first (collected at_first [] (row_into l f r)) (shift_terms l f r), unshifted_most l f r, shift_most l f r)

-- ---- the diagonal

pub stencil_diagonal : (l : FullLattice) (f : ℕ → C64) (r : ℕ) → contains r (columns_of (stencil_row l f r)) ≡ true
unfolding stencil_row
stencil_diagonal l f r =
    in_contains r (columns_of (stencil_row l f r))
    (in_collected at_first (collected at_first [] (row_into l f r)) (shift_terms l f r) r (inl (in_gathered at_first (row_into l f r) r (row_own l f r))))

-- ---- locality

-- an edge that is not fixed reads its own permittivity
shift_local : (l : FullLattice) (f g : ℕ → C64) (r : ℕ) → ((c : ℕ) → Member c (row_reads l r) → f c ≡ g c) → shift_terms l f r ≡ shift_terms l g r
unfolding shift_terms shift_number
shift_local l f g r h = go (Ieee.eq l.shift zero_f) (is_fixed l r) refl
  where
    go : (a b : Bool) → is_fixed l r ≡ b → cond (a || b) [] (shift_term l f r ∷ []) ≡ cond (a || b) [] (shift_term l g r ∷ [])
    go true b e = refl
    go false true e = refl
    go false false e = rw (h r (own_read l r e))

pub stencil_local : (l : FullLattice) (f g : ℕ → C64) (r : ℕ) → ((c : ℕ) → Member c (stencil_reads l r) → f c ≡ g c) → stencil_row l f r ≡ stencil_row l g r
unfolding stencil_row stencil_reads
stencil_local l f g r h =
    let p : row_into l f r ≡ row_into l g r = row_local l f g r h in
    let q : shift_terms l f r ≡ shift_terms l g r = shift_local l f g r h in
    λ i. collected at_first (collected at_first [] (p i)) (q i)

-- ---- a row in two lists, with room for 30 terms

-- one more term has room
pub shift_room : {cs cs' : List ℕ} {xs xs' : List Float} {ts : List Term} {n : ℕ} → Wrote cs xs 0 ts cs' xs' n → n ≤ 29 → 30 ≤ length cs → 60 ≤ length xs
    → (n < length cs') × (2 * n + 1 < length xs')
shift_room w few room rooms = (omega (arith, wrote_columns w), omega (arith, wrote_numbers w))

module _ (l : FullLattice) (f : ℕ → C64) (i : ℕ) where
  -- without the shift, from terms that stand in two lists
  pub unshifted_wrote : {ds cs cs' : List ℕ} {ys xs xs' : List Float} {n r : ℕ} → Holds 29 (row_into l f i) ds ys n
      → Wrote cs xs 0 (collected at_first [] (terms_in ds ys 0 n)) cs' xs' r
      → Wrote cs xs 0 (collected at_first [] (row_into l f i)) cs' xs' r × (r ≤ 29)
  unshifted_wrote {ds} {cs} {cs'} {ys} {xs} {xs'} {n} {r} h w =
      let v : Wrote cs xs 0 (collected at_first [] (row_into l f i)) cs' xs' r = rw h.terms at w in
      (v, wrote_most v (unshifted_most l f i))

  module _ {cs cs' : List ℕ} {xs xs' : List Float} {n : ℕ} (w : Wrote cs xs 0 (collected at_first [] (row_into l f i)) cs' xs' n) (few : n ≤ 29) where
    -- nothing is added: there is no shift, or the edge is fixed
    pub stencil_unshifted : ne l.shift zero_f ≡ false → Wrote cs xs 0 (stencil_row l f i) cs' xs' n × (n ≤ 30)
    unfolding stencil_row shift_terms ne
    stencil_unshifted e = (rw (not-false (Ieee.eq l.shift zero_f) e, collected_nil) w, omega arith)

    pub stencil_fixed : {b : Bool} → b ≡ is_fixed l i → not b ≡ false → Wrote cs xs 0 (stencil_row l f i) cs' xs' n × (n ≤ 30)
    unfolding stencil_row shift_terms
    stencil_fixed {b} p e = (rw (← p, not-false b e, or-true (Ieee.eq l.shift zero_f), collected_nil) w, omega arith)

    -- the shift's number is added on the diagonal
    pub stencil_shifted : {cs'' : List ℕ} {xs'' : List Float} {r : ℕ} {b : Bool} {v : C64} → 30 ≤ length cs → 60 ≤ length xs
        → ne l.shift zero_f ≡ true → b ≡ is_fixed l i → not b ≡ true → v ≡ shift_number l f i
        → Wrote cs' xs' 0 (inserted at_first (record { column = i; number = v }) (terms_in cs' xs' 0 n)) cs'' xs'' r
        → Wrote cs xs 0 (stencil_row l f i) cs'' xs'' r × (r ≤ 30)
    unfolding stencil_row shift_terms ne
    stencil_shifted {cs''} {xs''} {r} {b} {v} room rooms some fixed free p u =
        let e : Ieee.eq l.shift zero_f ≡ false = not-true (Ieee.eq l.shift zero_f) some in
        let d : is_fixed l i ≡ false = rw (← fixed) (not-true b free) in
        let row = collected at_first [] (row_into l f i) in
        let s : Stands cs xs row cs' xs' n = wrote_stands w (omega arith) (omega arith) in
        let u' : Wrote cs' xs' 0 (inserted at_first (shift_term l f i) row) cs'' xs'' r = rw (p, s.terms) at u in
        let full : stencil_row l f i ≡ inserted at_first (shift_term l f i) row = rw (e, d, collected_cons, collected_nil) in
        let most : r ≤ 30 = wrote_most u' (rw full at (stencil_most l f i)) in
        let t : Stands cs' xs' (inserted at_first (shift_term l f i) row) cs'' xs'' r = wrote_stands u' (omega (arith, s.long)) (omega (arith, s.longs)) in
        let longer : n ≤ r = omega (arith, s.next, t.next, length_kept at_first (shift_term l f i) row) in
        (rw full (stands_wrote (stands_over s t longer) (omega arith) (omega arith)), most)

-- ---- a row that stands in two lists is laid over others

-- its numbers
pub numbers_laid : (xs : List Float) (k : ℕ) {ts : List Term} {ds : List ℕ} {ys xs' : List Float} {n m : ℕ} {b : Bool} → Holds m ts ds ys n
    → xs' ≡ laid_numbers xs k (tabulate (number_at ys) n 0) → b ≡ all_finite (tabulate (number_at ys) n 0)
    → (xs' ≡ laid_numbers xs k (numbers_of ts)) × (b ≡ all_finite (numbers_of ts))
numbers_laid xs k h v e = (rw (numbers_held h) at v, rw (numbers_held h) at e)

-- its columns too
pub row_laid_lem : {ts : List Term} {ds cs cs' : List ℕ} {ys xs xs' : List Float} {n k r m : ℕ} {b : Bool} → Holds m ts ds ys n
    → Laid set cs k (places_in ds 0 n) cs' r → xs' ≡ laid_numbers xs k (tabulate (number_at ys) n 0) → b ≡ all_finite (tabulate (number_at ys) n 0)
    → Wrote cs xs k ts cs' xs' r × ((b ≡ all_finite (numbers_of ts)) × (r ≤ k + m))
row_laid_lem {ts} {ds} {cs} {cs'} {ys} {xs} {xs'} {n} {k} {r} {m} h c v e =
    let p = numbers_laid xs k h v e in
    let q : Laid set cs k (columns_of ts) cs' r = rw (places_held h) at c in
    let d : length ts ≡ n = ap length (sym h.terms) ∙ length_in ds ys 0 n in
    (record { columns = q.list; numbers = p.0; next = omega (arith, q.next, length_columns ts) }, (p.1, omega (arith, q.next, length_columns ts, h.most)))

-- ---- assembled: r of n rows are laid; the starts before the first turn are a list with 0 laid over it

pub record Assembling (row : ℕ → List Term) (n : ℕ) (ss₀ : List ℕ) (s : ℕ) (cs₀ : List ℕ) (xs₀ : List Float) (k : ℕ) (ss' cs : List ℕ) (xs : List Float) (next : ℕ) (all : Bool) (r : ℕ) : Type 0 where
  pub high : r ≤ n
  pub starts_laid_lem : (ss : List ℕ) (t : ℕ) → Laid set ss s (0 ∷ []) ss₀ t → Laid set ss s (starts_of row r) ss' (s + r + 1)
  pub wrote : Wrote cs₀ xs₀ k (rows row r) cs xs next
  pub all_is : all ≡ all_finite (numbers_of (rows row r))
  pub least : k ≤ next
  pub most : next ≤ k + 30 * r
  pub same_starts : length ss' ≡ length ss₀
  pub same_columns : length cs ≡ length cs₀
  pub same_numbers : length xs ≡ length xs₀

module _ {row : ℕ → List Term} {n s k : ℕ} {ss₀ cs₀ : List ℕ} {xs₀ : List Float} where
  pub assembling_start : Assembling row n ss₀ s cs₀ xs₀ k ss₀ cs₀ xs₀ k true 0
  assembling_start =
      record {
        high = omega arith;
        starts_laid_lem = first;
        wrote = rw (rows_zero row) wrote_none;
        all_is = rw (rows_zero row, numbers_of_nil, all_finite_nil);
        least = omega arith;
        most = omega arith;
        same_starts = refl;
        same_columns = refl;
        same_numbers = refl;
      }
    where
      first : (ss : List ℕ) (t : ℕ) → Laid set ss s (0 ∷ []) ss₀ t → Laid set ss s (starts_of row 0) ss₀ (s + 0 + 1)
      first ss t p =
          let e : s + 0 + 1 ≡ t = omega (arith, p.next) in
          rw (starts_first row, e) p

  pub assembling_turn : {ss ss' cs cs' : List ℕ} {xs xs' : List Float} {next next' t r : ℕ} {all all' b : Bool}
      → Assembling row n ss₀ s cs₀ xs₀ k ss cs xs next all r → r < n
      → Wrote cs xs next (row r) cs' xs' next' → b ≡ all_finite (numbers_of (row r)) → next' ≤ next + 30
      → all' ≡ (all && b) → Laid set ss (s + r + 1) ((next' - k) ∷ []) ss' t
      → Assembling row n ss₀ s cs₀ xs₀ k ss' cs' xs' next' all' (r + 1)
  assembling_turn {ss} {ss'} {cs} {cs'} {xs} {xs'} {next} {next'} {t} {r} {all} {all'} {b} u h w e m d p =
      let z : rows row (r + 1) ≡ rows row r ++ row r = rw (add-one r, rows_suc) in
      let w' : Wrote cs₀ xs₀ k (rows row (r + 1)) cs' xs' next' = rw z (wrote_append u.wrote w) in
      let start : start_of row (r + 1) ≡ next' - k = omega (arith, start_of_is row (r + 1), w'.next) in
      let v : s + (r + 1) + 1 ≡ t = omega (arith, p.next) in
      record {
        high = omega arith;
        starts_laid_lem = λ list end q. rw (starts_more row r, start, v) (laid_append (u.starts_laid_lem list end q) p);
        wrote = w';
        all_is = rw (d, u.all_is, e, z, numbers_append (rows row r) (row r)) (sym (finite_append (numbers_of (rows row r)) (numbers_of (row r))));
        least = omega (arith, w.next, u.least);
        most = omega (arith, u.most);
        same_starts = laid_same p ∙ u.same_starts;
        same_columns = wrote_columns w';
        same_numbers = wrote_numbers w';
      }

  pub assembling_end : {ss ss' cs : List ℕ} {xs : List Float} {next t r m : ℕ} {all : Bool} → Laid set ss s (0 ∷ []) ss₀ t
      → Assembling row n ss₀ s cs₀ xs₀ k ss' cs xs next all r → n ≤ r → n ≡ m
      → LaidRows row m ss s cs₀ xs₀ k ss' cs xs × (all ≡ all_finite (numbers_of (rows row m)))
  assembling_end {ss} {ss'} {cs} {xs} {next} {t} {r} {m} {all} p u h d =
      let e : r ≡ m = omega arith in
      let w : Wrote cs₀ xs₀ k (rows row m) cs xs next = rw e at u.wrote in (
        record {
          starts_are = rw e at (u.starts_laid_lem ss t p).list;
          columns_are = w.columns;
          numbers_are = w.numbers;
        },
        rw e at u.all_is,
      )

-- ---- what a row reads

pub below_more : {b d n : ℕ} {cs : List ℕ} → Below b cs n → b ≤ d → Below d cs n
below_more w h = record { low = λ m i. omega (arith, w.low m i) }

module _ (l : FullLattice) where
  -- the flag of an edge, set unless it is fixed
  module _ (c : ℕ) {b : Bool} {xs : List Bool} (e : b ≡ is_fixed l c) where
    pub edge_fixed : b ≡ true → Marked true (free_of l (c ∷ [])) xs xs
    edge_fixed h = marked_as marked_nil (sym (rw (free_of_cons l c [], free_of_nil l, ← e, h))) refl

    pub edge_free : b ≡ false → c < length xs → Marked true (free_of l (c ∷ [])) xs (set xs c true)
    edge_free h room = marked_as (marked_one room) (sym (rw (free_of_cons l c [], free_of_nil l, ← e, h))) refl

  -- those of the edges of a node
  pub node_marked : (q : ℕ) {m n : ℕ} {cs : List ℕ} {ys : List Float} {xs zs : List Bool} → Holds m (divergence_of l q) cs ys n
      → Marked true (free_of l (take n cs)) xs zs → Marked true (free_columns l q) xs zs
  node_marked q g p = marked_as p (sym (rw (free_columns_is l q, ← columns_held g))) refl

  module _ (r : ℕ) {b : Bool} (e : b ≡ is_fixed l r) where
    reads_is : stencil_reads l r ≡ cond b [] (r ∷ each (free_columns l) (columns_of (gradient_of l r)))
    unfolding stencil_reads
    reads_is = rw e (row_reads_lem l r)

    -- none where the edge is fixed
    pub reads_none : {xs : List Bool} → b ≡ true → Marked true (stencil_reads l r) xs xs
    reads_none h = marked_as marked_nil (sym (rw (reads_is, h))) refl

    -- its own, and those of the nodes of its gradient
    pub reads_nodes : {m n : ℕ} {cs : List ℕ} {ys : List Float} {xs zs : List Bool} → b ≡ false → r < length xs → Holds m (gradient_of l r) cs ys n
        → Marked true (each (free_columns l) (take n cs)) (set xs r true) zs → Marked true (stencil_reads l r) xs zs
    reads_nodes h room g p = marked_as (marked_append (marked_one room) p) (sym (rw (reads_is, h, ← columns_held g))) refl
