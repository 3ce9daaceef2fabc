-- The list that is written is the one rising list of the columns that the levels touch.
-- Assumes nothing.
use Prim.Native.Nat.{ℕ, zero, suc, ◌*◌, ◌<◌}
use mathlib.Core.Path.{◌≡◌, refl, sym, ◌∙◌, ap}
use mathlib.Core.Logic.{◌⊎◌, inl, inr, ⊎_elim, ◌↔◌}
use mathlib.Core.List.{List, ◌++◌}
use mathlib.Core.Bool.{true, false, ◌&&◌, and-true, and-false}
use native.Mathlib.Omega.{arith}
use native.Mathlib.Nat.{zero-mul, one-mul}
use borrow.Author.Tests.{eq-eqb, ne_eqb}
use lib.Dec.{eqb, lit<}
use Rattle.std.proofs.lemmas.Bool.{and_from, and_parts, or_cases, or_left, or_right}
use Rattle.operators.specs.Relation.{Spot, Within, Times}
use Rattle.operators.specs.Pattern.{name_of, name_at, Ladder, rel, box, Pattern, Row, Sound, Live}
use Rattle.operators.specs.Bits.{bit_at}
use Rattle.operators.specs.Columns.{block, row, picked, number}
use Rattle.operators.specs.declared.columns.Picks.{Picks}
use Rattle.operators.proofs.PatternTheorem.{row_live}
use Rattle.numbers.proofs.MemberLaws.{Span, in_append, in_left, in_right, unique}
use Rattle.numbers.specs.Lists.{In}
use Rattle.operators.proofs.ColumnMeaning.{block_in, in_block, row_span}

-- the words of a row of component a at p, for the columns of component b
pub record Picked (M : Ladder) (L a b : ℕ) (p : Spot) (s : Picks) : Type 0 where
  pub sx : (i : ℕ) → i < M.cells L 0 → bit_at s.sx i ≡ rel M L 0 (name_of (eqb 0 a) (eqb 0 b) false) p.x i
  pub tx : (i : ℕ) → i < M.cells L 0 → bit_at s.tx i ≡ rel M L 0 (name_of (eqb 0 a) (eqb 0 b) (eqb a b)) p.x i
  pub sy : (i : ℕ) → i < M.cells L 1 → bit_at s.sy i ≡ rel M L 1 (name_of (eqb 1 a) (eqb 1 b) false) p.y i
  pub ty : (i : ℕ) → i < M.cells L 1 → bit_at s.ty i ≡ rel M L 1 (name_of (eqb 1 a) (eqb 1 b) (eqb a b)) p.y i
  pub sz : (i : ℕ) → i < M.cells L 2 → bit_at s.sz i ≡ rel M L 2 (name_of (eqb 2 a) (eqb 2 b) false) p.z i
  pub tz : (i : ℕ) → i < M.cells L 2 → bit_at s.tz i ≡ rel M L 2 (name_of (eqb 2 a) (eqb 2 b) (eqb a b)) p.z i

near_name : (a b d : ℕ) → name_at a b d d ≡ name_of (eqb d a) (eqb d b) (eqb a b)
unfolding name_at
near_name a b d = rw (eq-eqb d d refl, and-true (eqb a b))

same_name : (a b w d : ℕ) → (d ≡ w → ⊥) → name_at a b w d ≡ name_of (eqb d a) (eqb d b) false
unfolding name_at
same_name a b w d h = rw (ne_eqb d w h, and-false (eqb a b))

-- one of three
unfoldable pub Three : Picks → ℕ → ℕ → ℕ → Type 0
Three s k j i =
    ((bit_at s.tx i ≡ true) × (bit_at s.sy j ≡ true) × (bit_at s.sz k ≡ true))
    ⊎ (((bit_at s.sx i ≡ true) × (bit_at s.ty j ≡ true) × (bit_at s.sz k ≡ true))
    ⊎ ((bit_at s.sx i ≡ true) × (bit_at s.sy j ≡ true) × (bit_at s.tz k ≡ true)))

picked_three : (s : Picks) (k j i : ℕ) → picked s k j i ≡ true → Three s k j i
unfolding picked Three
picked_three s k j i h =
    ⊎_elim
    (λ e.
    let t = and_parts _ _ e in
    let u = and_parts _ _ t.0 in
    inl (t.1, u.1, u.0))
    (λ e.
    let t = and_parts _ _ e in
    inr
    (⊎_elim
    (λ f. let u = and_parts _ _ f in inl (t.1, u.1, u.0))
    (λ f. let u = and_parts _ _ f in inr (t.1, u.1, u.0))
    (or_cases _ _ t.0)))
    (or_cases _ _ h)

three_picked : (s : Picks) (k j i : ℕ) → Three s k j i → picked s k j i ≡ true
unfolding picked Three
three_picked s k j i (inl t) = or_left _ _ (and_from _ _ (and_from _ _ t.2 t.1) t.0)
three_picked s k j i (inr (inl t)) =
    or_right ((bit_at s.sz k && bit_at s.sy j) && bit_at s.tx i) _ (and_from _ _ (or_left _ (bit_at s.tz k && bit_at s.sy j) (and_from _ _ t.2 t.1)) t.0)
three_picked s k j i (inr (inr t)) =
    or_right ((bit_at s.sz k && bit_at s.sy j) && bit_at s.tx i) _ (and_from _ _ (or_right (bit_at s.sz k && bit_at s.ty j) _ (and_from _ _ t.2 t.1)) t.0)

module _ (M : Ladder) (L a b : ℕ) (p : Spot) (s : Picks) (ok : Picked M L a b p s) (q : Spot) (inside : Within (box M L) q) where
  pub three_pattern : Three s q.z q.y q.x → Pattern M L a b p q
  unfolding Three
  three_pattern (inl t) = record {
    term = (0, lit< tt);
    held = record {
      x = rw (near_name a b 0, ← ok.tx q.x inside.x) t.0;
      y = rw (same_name a b 0 1 (λ e. omega arith), ← ok.sy q.y inside.y) t.1;
      z = rw (same_name a b 0 2 (λ e. omega arith), ← ok.sz q.z inside.z) t.2;
    };
  }
  three_pattern (inr (inl t)) = record {
    term = (1, lit< tt);
    held = record {
      x = rw (same_name a b 1 0 (λ e. omega arith), ← ok.sx q.x inside.x) t.0;
      y = rw (near_name a b 1, ← ok.ty q.y inside.y) t.1;
      z = rw (same_name a b 1 2 (λ e. omega arith), ← ok.sz q.z inside.z) t.2;
    };
  }
  three_pattern (inr (inr t)) = record {
    term = (2, lit< tt);
    held = record {
      x = rw (same_name a b 2 0 (λ e. omega arith), ← ok.sx q.x inside.x) t.0;
      y = rw (same_name a b 2 1 (λ e. omega arith), ← ok.sy q.y inside.y) t.1;
      z = rw (near_name a b 2, ← ok.tz q.z inside.z) t.2;
    };
  }

  pub pattern_three : Pattern M L a b p q → Three s q.z q.y q.x
  unfolding Three
  pattern_three u = go u.term.0 u.term.1 u.held
    where
      go : (w : ℕ) → w < 3 → Times (record { x = rel M L 0 (name_at a b w 0); y = rel M L 1 (name_at a b w 1); z = rel M L 2 (name_at a b w 2) }) p q
          → Three s q.z q.y q.x
      go zero h t = inl (
        ok.tx q.x inside.x ∙ rw (near_name a b 0) at t.x,
        ok.sy q.y inside.y ∙ rw (same_name a b 0 1 (λ e. omega arith)) at t.y,
        ok.sz q.z inside.z ∙ rw (same_name a b 0 2 (λ e. omega arith)) at t.z,
      )
      go (suc zero) h t = inr (inl (
        ok.sx q.x inside.x ∙ rw (same_name a b 1 0 (λ e. omega arith)) at t.x,
        ok.ty q.y inside.y ∙ rw (near_name a b 1) at t.y,
        ok.sz q.z inside.z ∙ rw (same_name a b 1 2 (λ e. omega arith)) at t.z,
      ))
      go (suc (suc zero)) h t = inr (inr (
        ok.sx q.x inside.x ∙ rw (same_name a b 2 0 (λ e. omega arith)) at t.x,
        ok.sy q.y inside.y ∙ rw (same_name a b 2 1 (λ e. omega arith)) at t.y,
        ok.tz q.z inside.z ∙ rw (near_name a b 2) at t.z,
      ))
      go (suc (suc (suc w))) h t = absurd (omega arith)

abbrev pub cells : Ladder → ℕ → ℕ
cells M L = M.cells L 0 * M.cells L 1 * M.cells L 2

-- c is the number of an edge that the row of component a at p touches, by the levels' own definition
pub record Column (M : Ladder) (L a : ℕ) (p : Spot) (c : ℕ) : Type 0 where
  pub comp : ℕ
  pub few : comp < 3
  pub at : Spot
  pub inside : Within (box M L) at
  pub is : c ≡ number (M.cells L 0) (M.cells L 1) (comp * cells M L) at.z at.y at.x
  pub held : Row M L a comp p at

module _ (M : Ladder) (S : Sound M) (L a : ℕ) (p : Spot) (live : Live M S L a p) (x y z : Picks)
    (okx : Picked M L a 0 p x) (oky : Picked M L a 1 p y) (okz : Picked M L a 2 p z) where
  from_block : (b base c : ℕ) (s : Picks) → b < 3 → base ≡ b * cells M L → Picked M L a b p s
      → In c (block s (M.cells L 0) (M.cells L 1) base (M.cells L 2) 0) → Column M L a p c
  from_block b base c s few e ok h =
      let t = block_in s (M.cells L 0) (M.cells L 1) (M.cells L 2) base c h in
      let q : Spot = record { x = t.i; y = t.j; z = t.k } in
      let n : Within (box M L) q = record { x = t.low; y = t.mid; z = t.high } in
      record {
        comp = b;
        few = few;
        at = q;
        inside = n;
        is = t.is ∙ ap (λ (m : ℕ). number (M.cells L 0) (M.cells L 1) m t.k t.j t.i) e;
        held = (row_live M S L a b p q live).1 (three_pattern M L a b p s ok q n (picked_three s t.k t.j t.i t.yes_here));
      }

  to_block : (b base c : ℕ) (s : Picks) → base ≡ b * cells M L → Picked M L a b p s → (t : Column M L a p c) → t.comp ≡ b
      → In c (block s (M.cells L 0) (M.cells L 1) base (M.cells L 2) 0)
  to_block b base c s e ok t f =
      in_block s (M.cells L 0) (M.cells L 1) (M.cells L 2) base c
      (record {
        i = t.at.x;
        j = t.at.y;
        k = t.at.z;
        low = t.inside.x;
        mid = t.inside.y;
        high = t.inside.z;
        yes_here = three_picked s t.at.z t.at.y t.at.x
            (pattern_three M L a b p s ok t.at t.inside ((row_live M S L a b p t.at live).0 (rw f at t.held)));
        is = rw (e, ← f) t.is;
      })

  pub row_in : (c : ℕ) → In c (row x y z (M.cells L 0) (M.cells L 1) (M.cells L 2)) → Column M L a p c
  unfolding row
  row_in c h =
      let n = cells M L in
      let nx = M.cells L 0 in
      let ny = M.cells L 1 in
      let nz = M.cells L 2 in
      ⊎_elim (from_block 0 0 c x (lit< tt) (sym (zero-mul n)) okx)
      (λ g. ⊎_elim (from_block 1 n c y (lit< tt) (sym (one-mul n)) oky) (from_block 2 (2 * n) c z (lit< tt) refl okz)
      (in_append c (block y nx ny n nz 0) (block z nx ny (2 * n) nz 0) g))
      (in_append c (block x nx ny 0 nz 0) (block y nx ny n nz 0 ++ block z nx ny (2 * n) nz 0) h)

  pub in_row : (c : ℕ) → Column M L a p c → In c (row x y z (M.cells L 0) (M.cells L 1) (M.cells L 2))
  unfolding row
  in_row c t = go t.comp t.few refl
    where
      n : ℕ
      n = cells M L

      nx : ℕ
      nx = M.cells L 0

      ny : ℕ
      ny = M.cells L 1

      nz : ℕ
      nz = M.cells L 2

      go : (b : ℕ) → b < 3 → t.comp ≡ b → In c (block x nx ny 0 nz 0 ++ (block y nx ny n nz 0 ++ block z nx ny (2 * n) nz 0))
      go zero h e = in_left c (block x nx ny 0 nz 0) (block y nx ny n nz 0 ++ block z nx ny (2 * n) nz 0) (to_block 0 0 c x (sym (zero-mul n)) okx t e)
      go (suc zero) h e = in_right c (block x nx ny 0 nz 0) (block y nx ny n nz 0 ++ block z nx ny (2 * n) nz 0)
          (in_left c (block y nx ny n nz 0) (block z nx ny (2 * n) nz 0) (to_block 1 n c y (sym (one-mul n)) oky t e))
      go (suc (suc zero)) h e = in_right c (block x nx ny 0 nz 0) (block y nx ny n nz 0 ++ block z nx ny (2 * n) nz 0)
          (in_right c (block y nx ny n nz 0) (block z nx ny (2 * n) nz 0) (to_block 2 (2 * n) c z refl okz t e))
      go (suc (suc (suc b))) h e = absurd (omega arith)

  -- whatever rises and has just the touched columns is the row that is written
  pub row_only : (b e : ℕ) (l : List ℕ) → Span b e l → ((c : ℕ) → In c l ↔ Column M L a p c) → l ≡ row x y z (M.cells L 0) (M.cells L 1) (M.cells L 2)
  row_only b e l s h =
      unique b e 0 (3 * cells M L) l (row x y z (M.cells L 0) (M.cells L 1) (M.cells L 2)) s (row_span x y z (M.cells L 0) (M.cells L 1) (M.cells L 2))
      (λ c i. in_row c ((h c).0 i)) (λ c i. (h c).1 (row_in c i))
