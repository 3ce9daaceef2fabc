-- At every level the columns of a row are the pattern and the diagonal.
-- Assumes nothing.
use Prim.Native.Nat.{ℕ, zero, suc}
use mathlib.Core.Path.{◌≡◌, refl, sym, subst}
use mathlib.Core.Logic.{◌⊎◌, inl, inr, ⊎_elim, ◌↔◌}
use mathlib.Core.Bool.{Bool, true, false, ◌&&◌}
use lib.Dec.{eqb, lit<}
use Rattle.operators.specs.Relation.{after, turned, Spot, Cube, Times, after_cube, turned_cube, Over, Then}
use Rattle.operators.specs.Pattern.{along, across, Name, row_role, column_role, role_of, name_of, role, name_at, Ladder, coarser, rel, box, cube, forward_cube, Pattern, Forward, SpotEdge, spot_edge, Row, Sound, Live}
use Rattle.operators.proofs.RelationLaws.{after_by, by_after, product}

row_role_lem : (p q s : Bool) → row_role (name_of p q s) ≡ role_of p
row_role_lem true true true = refl
row_role_lem true true false = refl
row_role_lem true false s = refl
row_role_lem false true s = refl
row_role_lem false false true = refl
row_role_lem false false false = refl

column_role_lem : (p q s : Bool) → column_role (name_of p q s) ≡ role_of q
column_role_lem true true true = refl
column_role_lem true true false = refl
column_role_lem true false s = refl
column_role_lem false true s = refl
column_role_lem false false true = refl
column_role_lem false false false = refl

module _ (M : Ladder) where
  -- an axis' relation in a term, one level down, goes by the roles of the two components
  next : (L a b w d : ℕ)
      → rel M (suc L) d (name_at a b w d)
      ≡ after (M.cells L d) (after (M.cells L d) (turned (M.forward L d (role a d))) (rel M L d (name_at a b w d))) (M.forward L d (role b d))
  unfolding rel coarser name_at
  next L a b w d = rw (row_role_lem (eqb d a) (eqb d b) (eqb a b && eqb d w), column_role_lem (eqb d a) (eqb d b) (eqb a b && eqb d w))

  next_cube : (L a b w : ℕ)
      → cube M (suc L) a b w ≡ after_cube (box M L) (after_cube (box M L) (turned_cube (forward_cube M L a)) (cube M L a b w)) (forward_cube M L b)
  unfolding after_cube
  next_cube L a b w = λ i. record { x = next L a b w 0 i; y = next L a b w 1 i; z = next L a b w 2 i }

  -- what forward, a pattern and the turned forward touch
  abbrev pub Touched : ℕ → ℕ → ℕ → Over → Over
  Touched L a b R = Then (box M L) (λ (p k : Spot). Forward M L a k p) (Then (box M L) R (Forward M L b))

  -- Theorem 3
  pub touched : (L a b : ℕ) (p q : Spot) → Touched L a b (Pattern M L a b) p q ↔ Pattern M (suc L) a b p q
  touched L a b p q = (
    (λ t.
        let w = t.second.first.term.0 in
        let n = box M L in
        let f = turned_cube (forward_cube M L a) in
        let left = (product n f (cube M L a b w) p t.second.by).0
        (record { by = t.by; inside = t.inside; first = turn a t.by p t.first; second = t.second.first.held }) in
        let whole = (product n (after_cube n f (cube M L a b w)) (forward_cube M L b) p q).0
        (record { by = t.second.by; inside = t.second.inside; first = left; second = t.second.second }) in
        record { term = t.second.first.term; held = subst (λ (c : Cube). Times c p q) (sym (next_cube L a b w)) whole }),
    (λ u.
        let w = u.term.0 in
        let n = box M L in
        let f = turned_cube (forward_cube M L a) in
        let h = subst (λ (c : Cube). Times c p q) (next_cube L a b w) u.held in
        let second = (product n (after_cube n f (cube M L a b w)) (forward_cube M L b) p q).1 h in
        let first = (product n f (cube M L a b w) p second.by).1 second.first in
        record {
          by = first.by;
          inside = first.inside;
          first = back a first.by p first.first;
          second = record { by = second.by; inside = second.inside; first = record { term = u.term; held = first.second }; second = second.second };
        }),
  )
    where
      turn : (a : ℕ) (k p : Spot) → Forward M L a k p → Times (turned_cube (forward_cube M L a)) p k
      turn a k p h = record { x = h.x; y = h.y; z = h.z }

      back : (a : ℕ) (k p : Spot) → Times (turned_cube (forward_cube M L a)) p k → Forward M L a k p
      back a k p h = record { x = h.x; y = h.y; z = h.z }

  -- the relations of a component with itself hold of each live place and itself, at every level
  module _ (S : Sound M) where
    base_self : (d : ℕ) (t s : Bool) (i : ℕ) → S.live 0 d (role_of t) i ≡ true → M.base d (name_of t t s) i i ≡ true
    base_self d true true i h = S.near_self d along i h
    base_self d true false i h = S.same_self d along i h
    base_self d false true i h = S.near_self d across i h
    base_self d false false i h = S.same_self d across i h

    self : (L d : ℕ) (t s : Bool) (i : ℕ) → S.live L d (role_of t) i ≡ true → rel M L d (name_of t t s) i i ≡ true
    unfolding rel coarser
    self zero d t s i h = base_self d t s i h
    self (suc L) d t s i h =
        let n = M.cells L d in
        let f = M.forward L d (role_of t) in
        let r = rel M L d (name_of t t s) in
        let w = S.reached L d (role_of t) i h in
        let k = w.0 in
        let m : r k k ≡ true = self L d t s k (S.starts L d (role_of t) k i w.2) in
        rw (row_role_lem t t s, column_role_lem t t s)
        (by_after n (after n (turned f) r) f i i k w.1 (by_after n (turned f) r i k k w.1 w.2 m) w.2)

    -- so a live edge is in its own pattern
    pub own : (L a : ℕ) (p : Spot) → Live M S L a p → Pattern M L a a p p
    unfolding name_at
    own L a p h =
        record {
          term = (0, lit< tt);
          held = record {
            x = self L 0 (eqb 0 a) _ p.x h.x;
            y = self L 1 (eqb 1 a) _ p.y h.y;
            z = self L 2 (eqb 2 a) _ p.z h.z;
          };
        }

    starts_live : (L a : ℕ) (k p : Spot) → Forward M L a k p → Live M S L a k
    starts_live L a k p h =
        record {
          x = S.starts L 0 (role a 0) k.x p.x h.x;
          y = S.starts L 1 (role a 1) k.y p.y h.y;
          z = S.starts L 2 (role a 2) k.z p.z h.z;
        }

    -- and only a live edge has a pattern
    rel_live : (L d : ℕ) (w : Name) (i j : ℕ) → rel M L d w i j ≡ true → S.live L d (row_role w) i ≡ true
    unfolding rel coarser
    rel_live zero d w i j h = S.only_live d w i j h
    rel_live (suc L) d w i j h =
        let n = M.cells L d in
        let f = M.forward L d (row_role w) in
        let g = M.forward L d (column_role w) in
        let l = after_by n (after n (turned f) (rel M L d w)) g i j h in
        let k = after_by n (turned f) (rel M L d w) i l.0 l.2 in
        S.ends L d (row_role w) k.0 i k.2

    pub pattern_live : (L a b : ℕ) (p q : Spot) → Pattern M L a b p q → Live M S L a p
    unfolding name_at
    pattern_live L a b p q u =
        let w = u.term.0 in
        let t = u.held in
        record {
          x = rw (row_role_lem (eqb 0 a) (eqb 0 b) (eqb a b && eqb 0 w)) at (rel_live L 0 (name_at a b w 0) p.x q.x t.x);
          y = rw (row_role_lem (eqb 1 a) (eqb 1 b) (eqb a b && eqb 1 w)) at (rel_live L 1 (name_at a b w 1) p.y q.y t.y);
          z = rw (row_role_lem (eqb 2 a) (eqb 2 b) (eqb a b && eqb 2 w)) at (rel_live L 2 (name_at a b w 2) p.z q.z t.z);
        }

    into : (L a b : ℕ) (k l p : Spot) → Forward M L a k p → (spot_edge a k ≡ spot_edge b l) ⊎ Pattern M L a b k l → Pattern M L a b k l
    into L a b k l p h (inl e) = subst (λ (g : SpotEdge). Pattern M L a g.comp k g.at) e (own L a k (starts_live L a k p h))
    into L a b k l p h (inr u) = u

    pub row_pattern : (L a b : ℕ) (p q : Spot) → Row M L a b p q → (spot_edge a p ≡ spot_edge b q) ⊎ Pattern M L a b p q
    unfolding Row
    row_pattern zero a b p q r = r
    row_pattern (suc L) a b p q (inl e) = inl e
    row_pattern (suc L) a b p q (inr t) =
        inr
        ((touched L a b p q).0
        (record {
          by = t.by;
          inside = t.inside;
          first = t.first;
          second = record {
            by = t.second.by;
            inside = t.second.inside;
            first = into L a b t.by t.second.by p t.first (row_pattern L a b t.by t.second.by t.second.first);
            second = t.second.second;
          };
        }))

    pub pattern_row_lem : (L a b : ℕ) (p q : Spot) → (spot_edge a p ≡ spot_edge b q) ⊎ Pattern M L a b p q → Row M L a b p q
    unfolding Row
    pattern_row_lem zero a b p q r = r
    pattern_row_lem (suc L) a b p q (inl e) = inl e
    pattern_row_lem (suc L) a b p q (inr u) =
        let t = (touched L a b p q).1 u in
        inr
        (record {
          by = t.by;
          inside = t.inside;
          first = t.first;
          second = record {
            by = t.second.by;
            inside = t.second.inside;
            first = pattern_row_lem L a b t.by t.second.by (inr t.second.first);
            second = t.second.second;
          };
        })

    -- the theorem: at every level a row's columns are the diagonal and the pattern
    pub row_is : (L a b : ℕ) (p q : Spot) → Row M L a b p q ↔ ((spot_edge a p ≡ spot_edge b q) ⊎ Pattern M L a b p q)
    row_is L a b p q = (row_pattern L a b p q, pattern_row_lem L a b p q)

    -- a live edge's row is its pattern, and another's is the diagonal
    pub row_live : (L a b : ℕ) (p q : Spot) → Live M S L a p → Row M L a b p q ↔ Pattern M L a b p q
    row_live L a b p q h = (
      (λ r. ⊎_elim (λ e. subst (λ (g : SpotEdge). Pattern M L a g.comp p g.at) e (own L a p h)) (λ u. u) (row_pattern L a b p q r)),
      (λ u. pattern_row_lem L a b p q (inr u)),
    )

    pub row_fixed : (L a b : ℕ) (p q : Spot) → (Live M S L a p → ⊥) → Row M L a b p q ↔ (spot_edge a p ≡ spot_edge b q)
    row_fixed L a b p q h = (
      (λ r. ⊎_elim (λ e. e) (λ u. absurd (h (pattern_live L a b p q u))) (row_pattern L a b p q r)),
      (λ e. pattern_row_lem L a b p q (inl e)),
    )
