-- The bits of the parts, one part behind another. Assumes nothing.
use Prim.Native.Nat.{ℕ, zero, suc, ◌+◌, ◌*◌, ◌/◌, ◌%◌, ◌≤◌, ◌<◌, ◌^◌}
use mathlib.Core.Path.{◌≡◌, refl, sym, ap, subst, ◌∙◌}
use mathlib.Core.Bool.{Bool, false, ◌||◌}
use mathlib.Core.List.{List}
use native.Mathlib.Omega.{arith}
use native.Mathlib.Decide.{dec_lt}
use lib.ListN.{length, get_or, replicate, length-replicate, get_or-replicate, get_or-eq_default}
use Rattle.numbers.proofs.SumLaws.{sum_to_zero, sum_to_suc, sum_most}
use Rattle.lattice.specs.Grid.{Limits}
use Rattle.lattice.specs.Lattice.{FullLattice}
use Rattle.operators.specs.Bits.{bit_at}
use Rattle.operators.specs.LevelLists.{edges_on}
use Rattle.operators.proofs.RangeLaws.{edges_few}
use Rattle.operators.proofs.WordLaws.{bit_none}
use Rattle.store.specs.FillSteps.{only_count}
use Rattle.store.specs.Parts.{row_by, size_by, sole_size, part_size, part_row, part_off, flag_at, FlagsOf}
use Rattle.store.specs.Reach.{operator_hit, hit}
use Rattle.store.specs.Rows.{Row, operator}
use Rattle.store.specs.ReachSteps.{Flags, BitsRaised, FlagsTo, HitsLong, HitsAt, NextHits, FirstHits, LevelRaised, TransferBits, LevelBits, SoleBits, parts_at}
use Rattle.store.specs.declared.Choice.{Choice}
use Rattle.store.specs.declared.Choice.TheVariants.{Galerkin, Rediscretized}
use Rattle.store.specs.declared.change.Hits.{Hits}
use Rattle.store.specs.declared.change.LevelParts.{LevelParts}
use Rattle.store.proofs.EndLaws.{edges_next}
use Rattle.numbers.proofs.PartLaws.{part_room}
use Rattle.store.proofs.RaisedLaws.{only_most}

-- ---- how many rows a part has

module _ (l : FullLattice) (limits : Limits l.grid) (ch : Choice) where
  kind_few : (k L : ℕ) → size_by l ch k L ≤ 12288
  unfolding size_by
  kind_few zero L = edges_few l limits (suc L)
  kind_few (suc zero) L = omega (arith, only_most ch (edges_on l (suc L)), edges_few l limits (suc L))
  kind_few (suc (suc zero)) L = edges_few l limits L
  kind_few (suc (suc (suc zero))) L = edges_few l limits (suc L)
  kind_few (suc (suc (suc (suc zero)))) L = omega (arith, only_most ch (edges_on l L), edges_few l limits L)
  kind_few (suc (suc (suc (suc (suc zero))))) L = omega (arith, only_most ch (edges_on l (suc L)), edges_few l limits (suc L))
  kind_few (suc (suc (suc (suc (suc (suc k)))))) L = edges_few l limits (suc L)

  part_few : (m p : ℕ) → part_size l ch m p ≤ 12288
  unfolding part_size
  part_few zero zero = edges_few l limits 0
  part_few (suc m) zero = omega arith
  part_few m (suc p) = kind_few (p % 7) (p / 7)

  pub off_most : (m p : ℕ) → part_off l ch m p ≤ 12288 * p
  off_most m p = sum_most (part_size l ch m) 12288 p (λ i b. part_few m i)

-- ---- one part more

module _ (l : FullLattice) (ch : Choice) (m : ℕ) (test : Row → Bool) where
  part_next : (p base n : ℕ) {xs : List Bool} {ws vs : List ℕ} {r : ℕ} → FlagsTo l ch m test p ws → base ≡ part_off l ch m p → BitsRaised base n xs ws vs r → n ≡ part_size l ch m p
      → ((i : ℕ) → i < n → get_or xs i false ≡ test (part_row p i)) → FlagsTo l ch m test (suc p) vs
  part_next p base n {xs} {ws} {vs} w e b size is =
      record {
        each_is = λ q i h j.
            elim (dec_lt q p) as (λ _. flag_at vs (part_off l ch m q + i) ≡ test (part_row q i)) [
              | yes k ↦ b.low_is (part_off l ch m q + i) (omega (arith, part_room (part_size l ch m) q p k)) ∙ w.each_is q i k j
              | no k ↦
                  let z : q ≡ p = omega arith in
                  let c : i < n = omega (arith, ap (part_size l ch m) z) in
                  rw (z, ← e) (b.each_is i c ∙ ap (λ (u : Bool). u || get_or xs i false) (w.rest_is (base + i) (omega arith)) ∙ is i c)
            ];
        rest_is = λ q h. b.high_is q (omega (arith, sum_to_suc (part_size l ch m) p)) ∙ w.rest_is q (omega (arith, sum_to_suc (part_size l ch m) p));
      }

  part_skip : (p : ℕ) {ws : List ℕ} → FlagsTo l ch m test p ws → ((i : ℕ) → i < part_size l ch m p → test (part_row p i) ≡ false) → FlagsTo l ch m test (suc p) ws
  part_skip p {ws} w is =
      record {
        each_is = λ q i h j.
            elim (dec_lt q p) as (λ _. flag_at ws (part_off l ch m q + i) ≡ test (part_row q i)) [
              | yes k ↦ w.each_is q i k j
              | no k ↦
                  let z : q ≡ p = omega arith in
                  rw z (w.rest_is (part_off l ch m p + i) (omega arith) ∙ sym (is i (omega (arith, ap (part_size l ch m) z))))
            ];
        rest_is = λ q h. w.rest_is q (omega (arith, sum_to_suc (part_size l ch m) p));
      }

  -- part 7 L + k + 1 has the rows of kind k of transfer L

  size_of : (L k : ℕ) → k < 7 → part_size l ch m (suc (7 * L + k)) ≡ size_by l ch k L
  unfolding part_size
  size_of L k h = let a : (7 * L + k) % 7 ≡ k = omega arith in let b : (7 * L + k) / 7 ≡ L = omega arith in rw (a, b) refl

  row_is : (L k i : ℕ) → k < 7 → part_row (suc (7 * L + k)) i ≡ row_by k L i
  unfolding part_row
  row_is L k i h = let a : (7 * L + k) % 7 ≡ k = omega arith in let b : (7 * L + k) / 7 ≡ L = omega arith in rw (a, b) refl

  off_next : (L k : ℕ) → k < 7 → part_off l ch m (suc (7 * L + suc k)) ≡ part_off l ch m (suc (7 * L + k)) + size_by l ch k L
  off_next L k h =
      let e : suc (7 * L + suc k) ≡ suc (suc (7 * L + k)) = omega arith in
      rw e (sum_to_suc (part_size l ch m) (suc (7 * L + k)) ∙ ap (λ (x : ℕ). part_off l ch m (suc (7 * L + k)) + x) (size_of L k h))

  kind_next : (L k : ℕ) → k < 7 → {base n : ℕ} {xs : List Bool} {ws vs : List ℕ} {r : ℕ} → FlagsTo l ch m test (suc (7 * L + k)) ws → base ≡ part_off l ch m (suc (7 * L + k))
      → BitsRaised base n xs ws vs r → n ≡ size_by l ch k L → ((i : ℕ) → i < n → get_or xs i false ≡ test (row_by k L i)) → FlagsTo l ch m test (suc (7 * L + suc k)) vs
  kind_next L k h {base} {n} {xs} {ws} {vs} w e b size is =
      let z : suc (suc (7 * L + k)) ≡ suc (7 * L + suc k) = omega arith in
      subst (λ (p : ℕ). FlagsTo l ch m test p vs) z
      (part_next (suc (7 * L + k)) base n w e b (size ∙ sym (size_of L k h)) (λ i j. is i j ∙ ap test (sym (row_is L k i h))))

  kind_skip : (L k : ℕ) → k < 7 → {ws : List ℕ} → FlagsTo l ch m test (suc (7 * L + k)) ws → ((i : ℕ) → test (row_by k L i) ≡ false) → FlagsTo l ch m test (suc (7 * L + suc k)) ws
  kind_skip L k h {ws} w is =
      let z : suc (suc (7 * L + k)) ≡ suc (7 * L + suc k) = omega arith in
      subst (λ (p : ℕ). FlagsTo l ch m test p ws) z (part_skip (suc (7 * L + k)) w (λ i j. ap test (row_is L k i h) ∙ is i))

-- ---- the seven parts of a transfer

only_flags : (ch : Choice) {k : ℕ} {f : ℕ → Bool} {xs : List Bool} → (ch ≡ Rediscretized → Flags k f xs) → (i : ℕ) → i < only_count ch k → get_or xs i false ≡ f i
only_flags Galerkin w i h = absurd (omega arith)
only_flags Rediscretized w i h = (w refl).each_is i h

pub transfer_bits : {base k a n : ℕ} {h : Hits} {ws ws₁ ws₂ ws₃ vs : List ℕ} {p₁ p₂ p₃ r : ℕ} → BitsRaised base k h.eps ws ws₁ p₁ → BitsRaised p₁ a h.averaged ws₁ ws₂ p₂
    → BitsRaised p₂ n h.forward ws₂ ws₃ p₃ → BitsRaised p₃ k h.turned ws₃ vs r → TransferBits base k a n h ws vs r
transfer_bits {ws₁ = ws₁} {ws₂ = ws₂} {ws₃ = ws₃} {p₁ = p₁} {p₂ = p₂} {p₃ = p₃} b₀ b₁ b₂ b₃ =
    record { ws₁ = ws₁; ws₂ = ws₂; ws₃ = ws₃; p₁ = p₁; p₂ = p₂; p₃ = p₃; coarse_bits = b₀; averaged_bits = b₁; forward_bits = b₂; turned_bits = b₃ }

-- where they end
pub transfer_ends : {base k a n : ℕ} {h : Hits} {ws vs : List ℕ} {r : ℕ} → TransferBits base k a n h ws vs r → (r ≡ base + k + a + n + k) × (length vs ≡ length ws)
transfer_ends t = (
  omega (arith, t.coarse_bits.next_is, t.averaged_bits.next_is, t.forward_bits.next_is, t.turned_bits.next_is),
  t.turned_bits.same_long ∙ t.forward_bits.same_long ∙ t.averaged_bits.same_long ∙ t.coarse_bits.same_long,
)

module _ (ch : Choice) (n k base : ℕ) (h : Hits) {a s : ℕ} (ea : a ≡ only_count ch k) (es : s ≡ only_count ch n) {w₀ w₄ w₅ w₆ : List ℕ} {p₄ p₆ r : ℕ}
    (b : TransferBits base k a n h w₀ w₄ p₄) (b₅ : BitsRaised (p₄ + s) a h.turned w₄ w₅ p₆) (b₆ : BitsRaised p₆ k h.operator w₅ w₆ r) where
  module _ (l : FullLattice) (m L : ℕ) (en : n ≡ edges_on l L) (ek : k ≡ edges_on l (suc L)) (e₀ : base ≡ part_off l ch m (suc (7 * L))) where
    abbrev off : ℕ → ℕ
    off j = part_off l ch m (suc (7 * L + j))

    only_k : a ≡ only_count ch (edges_on l (suc L))
    only_k = ea ∙ ap (only_count ch) ek

    only_n : s ≡ only_count ch (edges_on l L)
    only_n = es ∙ ap (only_count ch) en

    at₀ : base ≡ off 0
    at₀ = let z : suc (7 * L) ≡ suc (7 * L + 0) = omega arith in e₀ ∙ ap (part_off l ch m) z

    at₁ : b.p₁ ≡ off 1
    unfolding size_by
    at₁ = let t : off 1 ≡ off 0 + edges_on l (suc L) = off_next l ch m (λ q. false) L 0 (omega arith) in omega (arith, b.coarse_bits.next_is, at₀)

    at₂ : b.p₂ ≡ off 2
    unfolding size_by
    at₂ = let t : off 2 ≡ off 1 + only_count ch (edges_on l (suc L)) = off_next l ch m (λ q. false) L 1 (omega arith) in omega (arith, b.averaged_bits.next_is, at₁, only_k)

    at₃ : b.p₃ ≡ off 3
    unfolding size_by
    at₃ = let t : off 3 ≡ off 2 + edges_on l L = off_next l ch m (λ q. false) L 2 (omega arith) in omega (arith, b.forward_bits.next_is, at₂)

    at₄ : p₄ ≡ off 4
    unfolding size_by
    at₄ = let t : off 4 ≡ off 3 + edges_on l (suc L) = off_next l ch m (λ q. false) L 3 (omega arith) in omega (arith, b.turned_bits.next_is, at₃)

    at₅ : p₄ + s ≡ off 5
    unfolding size_by
    at₅ = let t : off 5 ≡ off 4 + only_count ch (edges_on l L) = off_next l ch m (λ q. false) L 4 (omega arith) in omega (arith, at₄, only_n)

    at₆ : p₆ ≡ off 6
    unfolding size_by
    at₆ = let t : off 6 ≡ off 5 + only_count ch (edges_on l (suc L)) = off_next l ch m (λ q. false) L 5 (omega arith) in omega (arith, b₅.next_is, at₅, only_k)

    at_end : r ≡ part_off l ch m (suc (7 * suc L))
    unfolding size_by
    at_end =
        let z : suc (7 * L + 7) ≡ suc (7 * suc L) = omega arith in
        let t : off 7 ≡ off 6 + edges_on l (suc L) = off_next l ch m (λ q. false) L 6 (omega arith) in
        let u : r ≡ off 7 = omega (arith, b₆.next_is, at₆) in
        u ∙ ap (part_off l ch m) z

    module _ (e : ℕ) (w : NextHits l e ch L h) (f : FlagsTo l ch m (hit l e ch) (suc (7 * L)) w₀) where
      abbrev Done : ℕ → List ℕ → Type 0
      Done j ws = FlagsTo l ch m (hit l e ch) (suc (7 * L + j)) ws

      done₀ : Done 0 w₀
      done₀ = let z : suc (7 * L) ≡ suc (7 * L + 0) = omega arith in subst (λ (p : ℕ). FlagsTo l ch m (hit l e ch) p w₀) z f

      done₁ : Done 1 b.ws₁
      unfolding size_by row_by
      done₁ = kind_next l ch m (hit l e ch) L 0 (omega arith) done₀ at₀ b.coarse_bits ek (λ i j. w.transfer.coarse_are.each_is i (omega arith))

      done₂ : Done 2 b.ws₂
      unfolding size_by row_by
      done₂ = kind_next l ch m (hit l e ch) L 1 (omega arith) done₁ at₁ b.averaged_bits only_k (λ i j. only_flags ch w.own.averaged_are i (omega (arith, only_k)))

      done₃ : Done 3 b.ws₃
      unfolding size_by row_by
      done₃ = kind_next l ch m (hit l e ch) L 2 (omega arith) done₂ at₂ b.forward_bits en (λ i j. w.transfer.forward_are.each_is i (omega arith))

      done₄ : Done 4 w₄
      unfolding size_by row_by
      done₄ = kind_next l ch m (hit l e ch) L 3 (omega arith) done₃ at₃ b.turned_bits ek (λ i j. w.transfer.turned_are.each_is i (omega arith))

      done₅ : Done 5 w₄
      unfolding row_by
      done₅ = kind_skip l ch m (hit l e ch) L 4 (omega arith) done₄ (λ i. refl)

      done₆ : Done 6 w₅
      unfolding size_by row_by
      done₆ =
          kind_next l ch m (hit l e ch) L 5 (omega arith) done₅ at₅ b₅ only_k
          (λ i j. w.transfer.turned_are.each_is i (omega (arith, only_k, only_most ch (edges_on l (suc L)))))

      done₇ : Done 7 w₆
      unfolding size_by row_by
      done₇ = kind_next l ch m (hit l e ch) L 6 (omega arith) done₆ at₆ b₆ ek (λ i j. w.operator_are.each_is i (omega arith))

      done_end : FlagsTo l ch m (hit l e ch) (suc (7 * suc L)) w₆
      done_end = let z : suc (7 * L + 7) ≡ suc (7 * suc L) = omega arith in subst (λ (p : ℕ). FlagsTo l ch m (hit l e ch) p w₆) z done₇

  pub level_bits : LevelBits ch n k base h w₀ w₆ r
  level_bits =
      record {
        same_long = b₆.same_long ∙ b₅.same_long ∙ b.turned_bits.same_long ∙ b.forward_bits.same_long ∙ b.averaged_bits.same_long ∙ b.coarse_bits.same_long;
        next_is = at_end;
        marked = done_end;
      }

-- ---- part 0

sole_size_lem : (l : FullLattice) (ch : Choice) (m : ℕ) → part_off l ch m 1 ≡ sole_size l m
unfolding part_size
sole_size_lem l ch m = let t : part_off l ch m 1 ≡ part_off l ch m 0 + part_size l ch m 0 = sum_to_suc (part_size l ch m) 0 in omega (arith, sum_to_zero (part_size l ch m))

first_part : (l : FullLattice) (ch : Choice) (m : ℕ) (test : Row → Bool) {ws : List ℕ} → ((q : ℕ) → flag_at ws q ≡ false) → FlagsTo l ch m test 0 ws
first_part l ch m test z = record { each_is = λ p i h j. absurd (omega arith); rest_is = λ q h. z q }

sole_row : (i : ℕ) → operator 0 i ≡ part_row 0 i
unfolding part_row
sole_row i = refl

pub sole_none : (m n : ℕ) (h : Hits) (ws : List ℕ) → 0 < m → SoleBits m n h ws ws 0
sole_none zero n h ws z = absurd (omega arith)
sole_none (suc m) n h ws z =
    record {
      same_long = refl;
      next_is = λ l ch e. sym (sole_size_lem l ch (suc m));
      marked = λ l ch e c w none. part_skip l ch (suc m) (hit l c ch) 0 (first_part l ch (suc m) (hit l c ch) none) (λ i j. absurd (unfold part_size in (omega arith)));
    }

pub sole_bits : (m n : ℕ) (h : Hits) {ws vs : List ℕ} {r : ℕ} → m ≡ 0 → BitsRaised 0 n h.operator ws vs r → SoleBits m n h ws vs r
sole_bits m n h {ws} {vs} {r} z b =
    record {
      same_long = b.same_long;
      next_is = λ l ch e. rw z (sole_next l ch e);
      marked = λ l ch e c w none. rw z (go l ch e c (w z) none);
    }
  where
    sole_next : (l : FullLattice) (ch : Choice) → n ≡ edges_on l 0 → r ≡ part_off l ch 0 1
    sole_next l ch e = omega (arith, b.next_is, sole_size_lem l ch 0)

    go : (l : FullLattice) (ch : Choice) → n ≡ edges_on l 0 → (c : ℕ) → Flags (edges_on l 0) (operator_hit l c ch 0) h.operator → ((q : ℕ) → flag_at ws q ≡ false) → FlagsTo l ch 0 (hit l c ch) 1 vs
    go l ch e c w none =
        part_next l ch 0 (hit l c ch) 0 0 n (first_part l ch 0 (hit l c ch) none) (sym (sum_to_zero (part_size l ch 0))) b (unfold part_size in e)
        (λ i j. w.each_is i (omega arith) ∙ ap (hit l c ch) (sole_row i))

-- ---- all levels

pub flags_of : (l : FullLattice) (limits : Limits l.grid) (ch : Choice) (m : ℕ) → m ≤ 11 → {test : Row → Bool} {ws : List ℕ} → length ws ≡ 14976 → FlagsTo l ch m test (suc (7 * m)) ws
    → FlagsOf l ch m test ws
flags_of l limits ch m deep long w = record { long = omega (arith, off_most l limits ch m (suc (7 * m))); each_is = w.each_is }

zero_word : (n i : ℕ) → ◌≡◌ {A = ℕ} (get_or (replicate n 0) i 0) 0
zero_word n i =
    elim (dec_lt i n) as (λ _. ◌≡◌ {A = ℕ} (get_or (replicate n 0) i 0) 0) [
      | yes h ↦ get_or-replicate n i 0 0 h
      | no h ↦ let long : length (replicate {A = ℕ} n 0) ≡ n = length-replicate n 0 in get_or-eq_default (replicate n 0) 0 {n = i} (omega arith)
    ]

-- no bit is set in zeros
pub none_set : {ws : List ℕ} → ws ≡ replicate 14976 0 → (q : ℕ) → flag_at ws q ≡ false
none_set {ws} e q =
    let z : get_or ws (q / 64) 0 ≡ 0 = ap (λ (us : List ℕ). get_or us (q / 64) 0) e ∙ zero_word 14976 (q / 64) in
    ap (λ (x : ℕ). bit_at x (q % 64)) z ∙ bit_none (q % 64)

pub words_long : {ws : List ℕ} → ws ≡ replicate 14976 0 → length ws ≡ 14976
words_long e = ap length e ∙ length-replicate {A = ℕ} 14976 0

pub sole_room : (l : FullLattice) (limits : Limits l.grid) {n : ℕ} {ws : List ℕ} → n ≡ edges_on l 0 → ws ≡ replicate 14976 0 → (n ≤ 12288) × (12288 ≤ 64 * length ws)
sole_room l limits e z = (omega (arith, edges_few l limits 0), omega (arith, words_long z))

-- the loop over the levels: L of m passed
pub record Raising (l : FullLattice) (ch : Choice) (m : ℕ) (h₀ : Hits) (ws₀ : List ℕ) (a : LevelParts) (base : ℕ) (h : Hits) (ws : List ℕ) (L : ℕ) : Type 0 where
  pub high : L ≤ m
  pub parts_are : a ≡ parts_at l ch m L
  pub base_is : base ≡ part_off l ch m (suc (7 * L))
  pub long : HitsLong h
  pub same_long : length ws ≡ length ws₀
  pub marked : (e : ℕ) → HitsAt l e ch 0 h₀ → FlagsTo l ch m (hit l e ch) 1 ws₀ → (HitsAt l e ch L h) × (FlagsTo l ch m (hit l e ch) (suc (7 * L)) ws)

module _ (l : FullLattice) (ch : Choice) (m : ℕ) {h₀ : Hits} {ws₀ : List ℕ} where
  pub raising_start : {a : LevelParts} {base : ℕ} → a ≡ parts_at l ch m 0 → base ≡ part_off l ch m 1 → HitsLong h₀ → Raising l ch m h₀ ws₀ a base h₀ ws₀ 0
  raising_start p b long = record { high = omega arith; parts_are = p; base_is = b; long = long; same_long = refl; marked = λ e w f. (w, f) }

  module _ {a : LevelParts} {base : ℕ} {h : Hits} {ws : List ℕ} {L : ℕ} (w : Raising l ch m h₀ ws₀ a base h ws L) (low : L < m) where
    pub raising_turn : {n k : ℕ} {a' : LevelParts} {base' : ℕ} {h' : Hits} {ws' : List ℕ} → n ≡ edges_on l L → k ≡ edges_on l (L + 1) → LevelRaised l ch L h h'
        → LevelBits ch n k base h' ws ws' base' → a' ≡ parts_at l ch m (suc L) → Raising l ch m h₀ ws₀ a' base' h' ws' (L + 1)
    raising_turn {n} {k} {a'} {base'} {h'} {ws'} en ek u v p =
        let z : suc L ≡ L + 1 = omega arith in
        let ek' : k ≡ edges_on l (suc L) = edges_next l L ek in
        subst (λ (K : ℕ). Raising l ch m h₀ ws₀ a' base' h' ws' K) z
        (record {
          high = low;
          parts_are = p;
          base_is = v.next_is l m L en ek' w.base_is;
          long = u.long;
          same_long = v.same_long ∙ w.same_long;
          marked = λ e t f.
              let g = w.marked e t f in
              let x = u.raised e g.0 in
              (x.own, v.marked l m L en ek' w.base_is e x g.1);
        })

    pub raising_room : Limits l.grid → m ≤ 11 → {n k : ℕ} → n ≡ edges_on l L → k ≡ edges_on l (L + 1) → length ws₀ ≡ 14976
        → (n ≤ 12288) × (k ≤ 12288) × (base ≤ 2 ^ 32) × (base + 86016 ≤ 64 * length ws)
    raising_room limits deep en ek long = (
      omega (arith, edges_few l limits L),
      omega (arith, edges_few l limits (L + 1)),
      omega (arith, w.base_is, off_most l limits ch m (suc (7 * L))),
      omega (arith, w.base_is, w.same_long, off_most l limits ch m (suc (7 * L))),
    )

  pub raising_end : Limits l.grid → m ≤ 11 → {a : LevelParts} {base : ℕ} {h : Hits} {ws : List ℕ} {L : ℕ} → Raising l ch m h₀ ws₀ a base h ws L → m ≤ L → length ws₀ ≡ 14976 → (e : ℕ)
      → FirstHits l e ch m h₀ → FlagsTo l ch m (hit l e ch) 1 ws₀ → FlagsOf l ch m (hit l e ch) ws
  raising_end limits deep {ws = ws} {L = L} w h long e first f =
      let z : L ≡ m = omega (arith, w.high) in
      flags_of l limits ch m deep (w.same_long ∙ long) (subst (λ (K : ℕ). FlagsTo l ch m (hit l e ch) (suc (7 * K)) ws) z (w.marked e first.hits f).1)
