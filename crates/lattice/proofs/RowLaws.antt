-- The rows' lists of terms: how long they are, that their columns are edges of the lattice, what of the permittivities they read.
-- Assumes nothing.
use Prim.Native.Nat.{ℕ, zero, suc, ◌+◌, ◌^◌, ◌<◌, ◌≤◌}
use mathlib.Core.Path.{◌≡◌, refl, ap, sym, ◌∙◌}
use mathlib.Core.Bool.{Bool, true, false, cond}
use mathlib.Core.List.Memᴰ
use mathlib.Core.List.Memᴰ.{head}
use mathlib.Core.List.Memᴰ.{tail}
use mathlib.Core.List.{List, [], ◌∷◌, ◌++◌, append-nil, Memᴰ as In}
use native.Mathlib.Omega.{arith}
use native.Mathlib.Numerals.{add-one}
use borrow.Author.Tests.{le-leb, eq-eqb, ne_eqb}
use lib.ListN.{length, get_or, take, replicate, length-append, length-take}
use lib.Seq.{take-suc, take-length, get_or-take, length-take-le}
use lib.Dec.{T}
use lib.IntN.{pos}
use lib.Ieee.{Float, binary64, of_int, in_float}
use Rattle.numbers.specs.declared.C64.{C64}
use Rattle.numbers.specs.Complex.{mul_f, neg_f, one_f, zero_number, one_number, sum, negation, real_over, over_real, product, real_times}
use Rattle.lattice.specs.Grid.{unknowns_of, Limits, Inside, with_component, at_of, next_axis, last_axis}
use Rattle.numbers.specs.Terms.{Term, Wrote, Below, columns_of, terms_in}
use Rattle.numbers.specs.Lists.{each, summed}
use Rattle.lattice.specs.Neighbours.{neighbour_of, is_fixed, is_node_fixed}
use Rattle.lattice.specs.Curls.{minus_one_f, half_weight, node_weight, term_to, term_here, ahead, behind, curl_e_at, curl_e, curl_h_at, curl_h, divergence_of, free_nodes, gradient_at, gradient_of}
use Rattle.lattice.specs.Rows.{face_term, face_terms, curl_curl, free_of, free_columns, free_sum, mean, node_eps, node_term, node_terms, grad_div, row_into, free_columns_of, row_reads}
use Rattle.lattice.specs.declared.grid.Grid3d.{Grid3d}
use Rattle.lattice.specs.declared.grid.Position.{Position}
use Rattle.lattice.specs.Lattice.{FullLattice}
use Rattle.lattice.specs.declared.rows.Sum.{Sum}
use Rattle.lattice.specs.declared.neighbours.Arrival.{Arrival}
use Rattle.std.specs.Prelude.{None, Some, Option}
use Rattle.lattice.proofs.GridLaws.{at_inside, index_below, with_inside, next_low, last_low, neighbour_below}
use Rattle.numbers.proofs.TermLaws.{Low, none, more, low_append, low_each, each_most, Holds, read_back, low_below, columns_held}
use Rattle.numbers.proofs.LoopLaws.{summed_local}
use Rattle.numbers.proofs.Equations.{each_nil, each_cons, columns_of_cons, summed_nil}
use Rattle.numbers.proofs.ElementLaws.{summed_append}

-- ---- positions, as the code has them

pub at_in : {g : Grid3d} {p : Position} {r : ℕ} → Limits g → r < unknowns_of g → p ≡ at_of g r → Inside g p
at_in {g} {p} {r} h b e = rw e (at_inside h r b)

pub with_in : {g : Grid3d} {p q : Position} {c : ℕ} → Inside g p → c < 3 → q ≡ with_component p c → Inside g q
with_in {g} {p} {q} {c} i b e = rw e (with_inside i c b)

-- ---- lengths

pub to_most : (to : Option Arrival) (w : C64) → length (term_to to w) ≤ 1
to_most None w = omega arith
to_most (Some s) w = omega arith

pub here_most : (l : FullLattice) (p : Position) (c : ℕ) (w : C64) → length (term_here l p c w) ≤ 1
unfolding term_here
here_most l p c w = omega arith

append_most : {A : Type 0} (s t : List A) (m n : ℕ) → length s ≤ m → length t ≤ n → length (s ++ t) ≤ m + n
append_most s t m n g h = omega (arith, length-append s t)

pub ahead_most : (l : FullLattice) (p : Position) (along field : ℕ) (sign : Float) → length (ahead l p along field sign) ≤ 2
unfolding ahead
ahead_most l p along field sign =
    let w = half_weight l p along sign in
    let to = neighbour_of l (with_component p field) along true in
    append_most (term_to to w) (term_here l p field (negation w)) 1 1 (to_most to w) (here_most l p field (negation w))

pub behind_most : (l : FullLattice) (p : Position) (along field : ℕ) (sign : Float) → length (behind l p along field sign) ≤ 2
unfolding behind
behind_most l p along field sign =
    let w = node_weight l p along sign in
    let to = neighbour_of l (with_component p field) along false in
    append_most (term_here l p field w) (term_to to (negation w)) 1 1 (here_most l p field w) (to_most to (negation w))

pub curl_e_most : (l : FullLattice) (r : ℕ) → length (curl_e l r) ≤ 4
unfolding curl_e curl_e_at
curl_e_most l r =
    let p = at_of l.grid r in
    let b = next_axis p.component in
    let c = last_axis p.component in
    append_most (ahead l p b c one_f) (ahead l p c b minus_one_f) 2 2 (ahead_most l p b c one_f) (ahead_most l p c b minus_one_f)

pub curl_h_most : (l : FullLattice) (r : ℕ) → length (curl_h l r) ≤ 4
unfolding curl_h curl_h_at
curl_h_most l r =
    let p = at_of l.grid r in
    let b = next_axis p.component in
    let c = last_axis p.component in
    append_most (behind l p b c one_f) (behind l p c b minus_one_f) 2 2 (behind_most l p b c one_f) (behind_most l p c b minus_one_f)

pub divergence_most : (l : FullLattice) (q : ℕ) → length (divergence_of l q) ≤ 6
unfolding divergence_of
divergence_most l q =
    let p = at_of l.grid q in
    let x = behind l p 0 0 one_f in
    let y = behind l p 1 1 one_f in
    let z = behind l p 2 2 one_f in
    append_most x (y ++ z) 2 4 (behind_most l p 0 0 one_f) (append_most y z 2 2 (behind_most l p 1 1 one_f) (behind_most l p 2 2 one_f))

cond_most : (b : Bool) (t : Term) → length (cond b [] (t ∷ [])) ≤ 1
cond_most true t = omega arith
cond_most false t = omega arith

free_shorter : (l : FullLattice) (ts : List Term) → length (free_nodes l ts) ≤ length ts
unfolding free_nodes
free_shorter l [] = omega arith
free_shorter l (t ∷ ts) = go (is_node_fixed l t.column) (free_shorter l ts)
  where
    go : (b : Bool) → length (free_nodes l ts) ≤ length ts → length (cond b (free_nodes l ts) (t ∷ free_nodes l ts)) ≤ suc (length ts)
    go true h = omega arith
    go false h = omega arith

pub free_most : (l : FullLattice) (ts : List Term) → length ts ≤ 1 → length (free_nodes l ts) ≤ 1
free_most l ts h = omega (arith, free_shorter l ts)

pub gradient_most : (l : FullLattice) (r : ℕ) → length (gradient_of l r) ≤ 2
unfolding gradient_of gradient_at
gradient_most l r =
    let p = at_of l.grid r in
    let w = half_weight l p p.component one_f in
    let t = term_to (neighbour_of l (with_component p 0) p.component true) w in
    let h = term_here l p 0 (negation w) in
    append_most (free_nodes l t) (free_nodes l h) 1 1 (free_most l t (to_most (neighbour_of l (with_component p 0) p.component true) w))
    (free_most l h (here_most l p 0 (negation w)))

pub face_term_most : (l : FullLattice) (wh : C64) (t : Term) → length (face_term l wh t) ≤ 1
unfolding face_term
face_term_most l wh t = cond_most (is_fixed l t.column) _

pub node_term_most : (l : FullLattice) (f : ℕ → C64) (wg inverse : C64) (t : Term) → length (node_term l f wg inverse t) ≤ 1
unfolding node_term
node_term_most l f wg inverse t = cond_most (is_fixed l t.column) _

pub face_terms_most : (l : FullLattice) (t : Term) → length (face_terms l t) ≤ 4
unfolding face_terms
face_terms_most l t = omega (arith, each_most (face_term l t.number) 1 (face_term_most l t.number) (curl_e l t.column), curl_e_most l t.column)

pub node_terms_most : (l : FullLattice) (f : ℕ → C64) (t : Term) → length (node_terms l f t) ≤ 6
unfolding node_terms
node_terms_most l f t =
    let v = real_over one_f (node_eps l f t.column) in
    omega (arith, each_most (node_term l f t.number v) 1 (node_term_most l f t.number v) (divergence_of l t.column), divergence_most l t.column)

pub curl_curl_most : (l : FullLattice) (r : ℕ) → length (curl_curl l r) ≤ 16
unfolding curl_curl
curl_curl_most l r = omega (arith, each_most (face_terms l) 4 (face_terms_most l) (curl_h l r), curl_h_most l r)

pub grad_div_most : (l : FullLattice) (f : ℕ → C64) (r : ℕ) → length (grad_div l f r) ≤ 12
unfolding grad_div
grad_div_most l f r = omega (arith, each_most (node_terms l f) 6 (node_terms_most l f) (gradient_of l r), gradient_most l r)

pub row_most : (l : FullLattice) (f : ℕ → C64) (r : ℕ) → length (row_into l f r) ≤ 29
unfolding row_into
row_most l f r = go (is_fixed l r)
  where
    go : (b : Bool) → length (cond b (record { column = r; number = one_number } ∷ []) (record { column = r; number = real_times (mul_f l.k0 l.k0) (f r) } ∷ (curl_curl l r ++ grad_div l f r))) ≤ 29
    go true = omega arith
    go false = omega (arith, append_most (curl_curl l r) (grad_div l f r) 16 12 (curl_curl_most l r) (grad_div_most l f r))

-- ---- columns below the number of edges

low_kept : {b : ℕ} {ts : List Term} (left_out : Bool) (t : Term) → t.column < b → Low b ts → Low b (cond left_out ts (t ∷ ts))
low_kept true t p u = u
low_kept false t p u = more p u

module _ (l : FullLattice) (h : Limits l.grid) where
  low_to : {p : Position} (a : ℕ) (up : Bool) (w : C64) → Inside l.grid p → Low (unknowns_of l.grid) (term_to (neighbour_of l p a up) w)
  low_to {p} a up w i = go (neighbour_of l p a up) refl
    where
      go : (to : Option Arrival) → neighbour_of l p a up ≡ to → Low (unknowns_of l.grid) (term_to to w)
      go None e = none
      go (Some s) e = more (neighbour_below l p a up s.at s.phase h i e) none

  low_here : {p : Position} (c : ℕ) (w : C64) → Inside l.grid p → c < 3 → Low (unknowns_of l.grid) (term_here l p c w)
  unfolding term_here
  low_here c w i b = more (index_below h (with_inside i c b)) none

  low_ahead : {p : Position} (along field : ℕ) (sign : Float) → Inside l.grid p → field < 3 → Low (unknowns_of l.grid) (ahead l p along field sign)
  unfolding ahead
  low_ahead {p} along field sign i b =
      low_append (low_to along true (half_weight l p along sign) (with_inside i field b)) (low_here field (negation (half_weight l p along sign)) i b)

  low_behind : {p : Position} (along field : ℕ) (sign : Float) → Inside l.grid p → field < 3 → Low (unknowns_of l.grid) (behind l p along field sign)
  unfolding behind
  low_behind {p} along field sign i b =
      low_append (low_here field (node_weight l p along sign) i b) (low_to along false (negation (node_weight l p along sign)) (with_inside i field b))

  low_free : {ts : List Term} → Low (unknowns_of l.grid) ts → Low (unknowns_of l.grid) (free_nodes l ts)
  unfolding free_nodes
  low_free none = none
  low_free (more {t = t} p u) = low_kept (is_node_fixed l t.column) t p (low_free u)

  module _ (r : ℕ) (b : r < unknowns_of l.grid) where
    pub low_curl_e : Low (unknowns_of l.grid) (curl_e l r)
    unfolding curl_e curl_e_at
    low_curl_e =
        let a = (at_of l.grid r).component in
        let i = at_inside h r b in
        low_append (low_ahead (next_axis a) (last_axis a) one_f i (last_low a)) (low_ahead (last_axis a) (next_axis a) minus_one_f i (next_low a))

    pub low_curl_h : Low (unknowns_of l.grid) (curl_h l r)
    unfolding curl_h curl_h_at
    low_curl_h =
        let a = (at_of l.grid r).component in
        let i = at_inside h r b in
        low_append (low_behind (next_axis a) (last_axis a) one_f i (last_low a)) (low_behind (last_axis a) (next_axis a) minus_one_f i (next_low a))

    pub low_divergence : Low (unknowns_of l.grid) (divergence_of l r)
    unfolding divergence_of
    low_divergence =
        let i = at_inside h r b in
        low_append (low_behind 0 0 one_f i (omega arith)) (low_append (low_behind 1 1 one_f i (omega arith)) (low_behind 2 2 one_f i (omega arith)))

    pub low_gradient : Low (unknowns_of l.grid) (gradient_of l r)
    unfolding gradient_of gradient_at
    low_gradient =
        let p = at_of l.grid r in
        let i = at_inside h r b in
        let w = half_weight l p p.component one_f in
        low_append (low_free (low_to p.component true w (with_inside i 0 (omega arith)))) (low_free (low_here 0 (negation w) i (omega arith)))

  low_face_terms : (t : Term) → t.column < unknowns_of l.grid → Low (unknowns_of l.grid) (face_terms l t)
  unfolding face_terms face_term
  low_face_terms t b =
      low_each (face_term l t.number) (λ s p. low_kept (is_fixed l s.column) _ p none) (low_curl_e t.column b)

  low_node_terms : (f : ℕ → C64) (t : Term) → t.column < unknowns_of l.grid → Low (unknowns_of l.grid) (node_terms l f t)
  unfolding node_terms node_term
  low_node_terms f t b =
      low_each (node_term l f t.number (real_over one_f (node_eps l f t.column))) (λ s p. low_kept (is_fixed l s.column) _ p none) (low_divergence t.column b)

  pub low_row : (f : ℕ → C64) (r : ℕ) → r < unknowns_of l.grid → Low (unknowns_of l.grid) (row_into l f r)
  unfolding row_into curl_curl grad_div
  low_row f r b = go (is_fixed l r)
    where
      go : (fixed : Bool) → Low (unknowns_of l.grid) (cond fixed (record { column = r; number = one_number } ∷ []) (record { column = r; number = real_times (mul_f l.k0 l.k0) (f r) } ∷ (curl_curl l r ++ grad_div l f r)))
      go true = more b none
      go false = more b (low_append (low_each (face_terms l) low_face_terms (low_curl_h r b)) (low_each (node_terms l f) (low_node_terms f) (low_gradient r b)))

-- ---- sums over the edges that are not fixed

free_append : (l : FullLattice) (cs : List ℕ) (c : ℕ) → free_of l (cs ++ (c ∷ [])) ≡ free_of l cs ++ cond (is_fixed l c) [] (c ∷ [])
unfolding free_of
free_append l [] c = refl
free_append l (d ∷ cs) c = go (is_fixed l d) (free_append l cs c)
  where
    go : (b : Bool) → free_of l (cs ++ (c ∷ [])) ≡ free_of l cs ++ cond (is_fixed l c) [] (c ∷ [])
        → cond b (free_of l (cs ++ (c ∷ []))) (d ∷ free_of l (cs ++ (c ∷ []))) ≡ cond b (free_of l cs) (d ∷ free_of l cs) ++ cond (is_fixed l c) [] (c ∷ [])
    go true e = e
    go false e = ap (λ (es : List ℕ). d ∷ es) e

free_most_of : (l : FullLattice) (cs : List ℕ) → length (free_of l cs) ≤ length cs
unfolding free_of
free_most_of l [] = omega arith
free_most_of l (c ∷ cs) = go (is_fixed l c) (free_most_of l cs)
  where
    go : (b : Bool) → length (free_of l cs) ≤ length cs → length (cond b (free_of l cs) (c ∷ free_of l cs)) ≤ suc (length cs)
    go true h = omega arith
    go false h = omega arith

free_more : (l : FullLattice) (cs : List ℕ) (m : ℕ) → m < length cs
    → free_of l (take (m + 1) cs) ≡ free_of l (take m cs) ++ cond (is_fixed l (get_or cs m 0)) [] (get_or cs m 0 ∷ [])
free_more l cs m h = rw (add-one m, take-suc cs m 0 h) (free_append l (take m cs) (get_or cs m 0))

-- a loop that sums over the first n edges of a list, m of them done
pub record Summing (l : FullLattice) (f : ℕ → C64) (cs : List ℕ) (total : C64) (count m : ℕ) : Type 0 where
  pub few : count ≤ m
  pub total_is : total ≡ summed f zero_number (free_of l (take m cs))
  pub count_is : count ≡ length (free_of l (take m cs))

module _ {l : FullLattice} {f : ℕ → C64} {cs : List ℕ} where
  pub summing_start : {total : C64} → total ≡ zero_number → Summing l f cs total 0 0
  unfolding free_of
  summing_start e = record { few = omega arith; total_is = e ∙ sym (summed_nil f zero_number); count_is = refl }

  pub summing_fixed : {total : C64} {count m : ℕ} → Summing l f cs total count m → m < length cs
      → is_fixed l (get_or cs m 0) ≡ true → Summing l f cs total count (m + 1)
  summing_fixed {total} {count} {m} u h e =
      let d : free_of l (take (m + 1) cs) ≡ free_of l (take m cs) =
      rw (free_more l cs m h, e) (append-nil (free_of l (take m cs))) in
      record { few = omega arith; total_is = rw d u.total_is; count_is = rw d u.count_is }

  pub summing_free : {total total' v : C64} {count m : ℕ} → Summing l f cs total count m → m < length cs
      → is_fixed l (get_or cs m 0) ≡ false → v ≡ f (get_or cs m 0) → total' ≡ sum total v → Summing l f cs total' (count + 1) (m + 1)
  summing_free {total} {total'} {v} {count} {m} u h e p q =
      let es = free_of l (take m cs) in
      let d : free_of l (take (m + 1) cs) ≡ es ++ (get_or cs m 0 ∷ []) = rw (free_more l cs m h, e) in
      record {
        few = omega arith;
        total_is = rw (d, summed_append f zero_number es (get_or cs m 0), ← p, ← u.total_is) q;
        count_is = rw d (omega (arith, length-append es (get_or cs m 0 ∷ []), u.count_is));
      }

  pub summing_end : {total : C64} {count m : ℕ} → Summing l f cs total count m → m ≡ length cs
      → ◌≡◌ {A = Sum} (record { total = total; count = count }) (free_sum l f cs)
  unfolding free_sum
  summing_end {total} {count} {m} u h =
      let e : take m cs ≡ cs = rw h (take-length cs) in
      let p : total ≡ summed f zero_number (free_of l cs) = rw e at u.total_is in
      let q : count ≡ length (free_of l cs) = rw e at u.count_is in
      λ i. record { total = p i; count = q i }

-- ---- the mean over them

-- the parts of a sum
module _ (l : FullLattice) (f : ℕ → C64) (cs : List ℕ) {s : Sum} (e : s ≡ free_sum l f cs) where
  pub count_of : s.count ≡ length (free_of l cs)
  unfolding free_sum
  count_of = ap (λ (t : Sum). t.count) e

  total_of : s.total ≡ summed f zero_number (free_of l cs)
  unfolding free_sum
  total_of = ap (λ (t : Sum). t.total) e

  pub mean_none : s.count ≡ 0 → mean f (free_of l cs) ≡ one_number
  unfolding mean
  mean_none h = rw (eq-eqb (length (free_of l cs)) 0 (omega (arith, count_of)))

  pub mean_some : (s.count ≡ 0 → ⊥) → mean f (free_of l cs) ≡ over_real s.total (of_int binary64 (pos s.count))
  unfolding mean
  mean_some h = rw (← count_of, ← total_of, ne_eqb s.count 0 h)

  pub count_most : (n : ℕ) → length cs ≤ n → s.count ≤ n
  count_most n h = omega (arith, count_of, free_most_of l cs)

-- the mean over the columns of the divergence's terms, as two lists hold them
pub mean_held : (l : FullLattice) (f : ℕ → C64) (q : ℕ) {b n : ℕ} {cs : List ℕ} {xs : List Float}
    → Holds b (divergence_of l q) cs xs n → mean f (free_of l (take n cs)) ≡ node_eps l f q
unfolding node_eps free_columns
mean_held l f q e = ap (λ (ds : List ℕ). mean f (free_of l ds)) (columns_held e)

-- a small number is a double
pub small_float : (n : ℕ) → n ≤ 64 → T (in_float binary64 (pos n))
unfolding in_float
small_float n h = rw (le-leb n (2 ^ 53) (omega arith)) tt

-- ---- locality: a row sees of the permittivities only what stands at the positions that it reads

module _ (l : FullLattice) (f g : ℕ → C64) where
  eps_local : (q : ℕ) → ((c : ℕ) → In c (free_columns l q) → f c ≡ g c) → node_eps l f q ≡ node_eps l g q
  unfolding node_eps mean
  eps_local q h = rw (summed_local f g (free_columns l q) zero_number h)

  term_local : (wg inverse : C64) (ts : List Term) → ((c : ℕ) → In c (free_of l (columns_of ts)) → f c ≡ g c)
      → each (node_term l f wg inverse) ts ≡ each (node_term l g wg inverse) ts
  unfolding free_of node_term
  term_local wg inverse [] h = rw (each_nil (node_term l f wg inverse), each_nil (node_term l g wg inverse))
  term_local wg inverse (t ∷ ts) h =
      rw (each_cons (node_term l f wg inverse) t ts, each_cons (node_term l g wg inverse) t ts)
      (go (is_fixed l t.column) (rw (columns_of_cons t ts) at h) (term_local wg inverse ts))
    where
      go : (b : Bool) → ((c : ℕ) → In c (cond b (free_of l (columns_of ts)) (t.column ∷ free_of l (columns_of ts))) → f c ≡ g c)
          → (((c : ℕ) → In c (free_of l (columns_of ts)) → f c ≡ g c) → each (node_term l f wg inverse) ts ≡ each (node_term l g wg inverse) ts)
          → cond b [] (record { column = t.column; number = product (product (product (real_times (neg_f minus_one_f) wg) t.number) (f t.column)) inverse } ∷ []) ++ each (node_term l f wg inverse) ts
          ≡ cond b [] (record { column = t.column; number = product (product (product (real_times (neg_f minus_one_f) wg) t.number) (g t.column)) inverse } ∷ []) ++ each (node_term l g wg inverse) ts
      go true k rest = rest k
      go false k rest =
          λ i.
          record { column = t.column; number = product (product (product (real_times (neg_f minus_one_f) wg) t.number) (k t.column (head refl) i)) inverse }
          ∷ rest (λ c m. k c (tail m)) i

  terms_local : (t : Term) → ((c : ℕ) → In c (free_columns_of l t) → f c ≡ g c) → node_terms l f t ≡ node_terms l g t
  unfolding node_terms free_columns_of free_columns
  terms_local t h = rw (eps_local t.column h) (term_local t.number (real_over one_f (node_eps l g t.column)) (divergence_of l t.column) h)

  nodes_local : (ts : List Term) → ((c : ℕ) → In c (each (free_columns_of l) ts) → f c ≡ g c) → each (node_terms l f) ts ≡ each (node_terms l g) ts
  nodes_local [] h = rw (each_nil (node_terms l f), each_nil (node_terms l g))
  nodes_local (t ∷ ts) h =
      let k : (c : ℕ) → In c (free_columns_of l t ++ each (free_columns_of l) ts) → f c ≡ g c = rw (each_cons (free_columns_of l) t ts) at h in
      rw (each_cons (node_terms l f) t ts, each_cons (node_terms l g) t ts)
      (λ i. terms_local t (λ c m. k c (Memᴰ.append_left (each (free_columns_of l) ts) m)) i
      ++ nodes_local ts (λ c m. k c (Memᴰ.append_right (free_columns_of l t) m)) i)

pub row_local : (l : FullLattice) (f g : ℕ → C64) (r : ℕ) → ((c : ℕ) → In c (row_reads l r) → f c ≡ g c) → row_into l f r ≡ row_into l g r
unfolding row_into row_reads grad_div
row_local l f g r = go (is_fixed l r)
  where
    go : (b : Bool) → ((c : ℕ) → In c (cond b [] (r ∷ each (free_columns_of l) (gradient_of l r))) → f c ≡ g c)
        → cond b (record { column = r; number = one_number } ∷ []) (record { column = r; number = real_times (mul_f l.k0 l.k0) (f r) } ∷ (curl_curl l r ++ grad_div l f r))
        ≡ cond b (record { column = r; number = one_number } ∷ []) (record { column = r; number = real_times (mul_f l.k0 l.k0) (g r) } ∷ (curl_curl l r ++ grad_div l g r))
    go true h = refl
    go false h =
        λ i.
        record { column = r; number = real_times (mul_f l.k0 l.k0) (h r (head refl) i) }
        ∷ (curl_curl l r ++ nodes_local l f g (gradient_of l r) (λ c m. h c (tail m)) i)

-- ---- what a call leaves in new lists, read back

module _ (l : FullLattice) (r : ℕ) {n : ℕ} {z : Float} {cs : List ℕ} {xs : List Float} where
  pub curl_e_held : Wrote (replicate 4 0) (replicate 8 z) 0 (curl_e l r) cs xs n → Holds 4 (curl_e l r) cs xs n
  curl_e_held w = read_back 4 w (curl_e_most l r) (omega arith) (omega arith)

  pub curl_h_held : Wrote (replicate 4 0) (replicate 8 z) 0 (curl_h l r) cs xs n → Holds 4 (curl_h l r) cs xs n
  curl_h_held w = read_back 4 w (curl_h_most l r) (omega arith) (omega arith)

  pub divergence_held : Wrote (replicate 6 0) (replicate 12 z) 0 (divergence_of l r) cs xs n → Holds 6 (divergence_of l r) cs xs n
  divergence_held w = read_back 6 w (divergence_most l r) (omega arith) (omega arith)

  pub gradient_held : Wrote (replicate 2 0) (replicate 4 z) 0 (gradient_of l r) cs xs n → Holds 2 (gradient_of l r) cs xs n
  gradient_held w = read_back 2 w (gradient_most l r) (omega arith) (omega arith)

-- the columns that are held, as a slice
pub below_held : {u b n : ℕ} {ts : List Term} {cs : List ℕ} {xs : List Float} → Holds b ts cs xs n → Low u ts → Below u (take n cs) (length (take n cs))
below_held {n = n} {cs = cs} e v =
    record { low = λ m h. let i : m < n = omega (arith, length-take n cs) in rw (get_or-take n cs m 0 i) ((low_below e v).low m i) }

terms_taken : (n : ℕ) (cs : List ℕ) (xs : List Float) (k m : ℕ) → k + m ≤ n → terms_in (take n cs) xs k m ≡ terms_in cs xs k m
unfolding terms_in
terms_taken n cs xs k zero h = refl
terms_taken n cs xs k (suc m) h = rw (get_or-take n cs k 0 (omega arith), terms_taken n cs xs (suc k) m (omega arith))

pub terms_held : {b n : ℕ} {ts : List Term} {cs : List ℕ} {xs : List Float} → Holds b ts cs xs n → terms_in (take n cs) xs 0 (length (take n cs)) ≡ ts
terms_held {n = n} {cs = cs} {xs = xs} e = rw (length-take-le n cs e.columns_room, terms_taken n cs xs 0 n (omega arith)) e.terms
