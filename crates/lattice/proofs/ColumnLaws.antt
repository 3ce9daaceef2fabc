-- Laws of the lattice's rows: which edges and nodes are held fixed, the columns of a row, and what of the permittivities it reads.
-- Assumes nothing.
use Prim.Native.Nat.{ℕ, zero, suc, ◌+◌, ◌<◌}
use mathlib.Core.Path.{◌≡◌, refl, sym, ap, ◌∙◌}
use mathlib.Core.Logic.{◌⊎◌, inl, inr}
use mathlib.Core.Bool.{Bool, true, false, not, ◌&&◌, ◌||◌, cond, false≢true}
use mathlib.Core.List.Memᴰ.{head}
use mathlib.Core.List.{List, [], ◌∷◌, ◌++◌, Memᴰ as Member}
use native.Mathlib.Omega.{arith}
use lib.Dec.{eqb}
use Rattle.numbers.specs.declared.C64.{C64}
use Rattle.numbers.specs.Complex.{mul_f, one_f, one_number, real_over, real_times}
use Rattle.numbers.specs.Lists.{In, each}
use Rattle.numbers.specs.Terms.{Term, columns_of}
use Rattle.numbers.proofs.TabulateLaws.{length_tabulate}
use Rattle.numbers.proofs.EachLaws.{columns_append, columns_each}
use Rattle.lattice.specs.declared.grid.Grid3d.{Grid3d}
use Rattle.lattice.specs.declared.grid.Position.{Position}
use Rattle.lattice.specs.Grid.{n_of, index_of, at_of, Limits, Inside}
use Rattle.lattice.specs.Lattice.{FullLattice}
use Rattle.lattice.specs.Line.{twice, finest_ends}
use Rattle.lattice.specs.Levels.{line_at, cells_at}
use Rattle.lattice.specs.Neighbours.{on_wall, fixed_at, is_fixed, is_node_fixed}
use Rattle.lattice.specs.Curls.{curl_e_at, curl_e, curl_h_at, curl_h, divergence_of, free_nodes, gradient_at, gradient_of}
use Rattle.lattice.specs.Rows.{face_term, face_terms, curl_curl, free_of, free_columns, free_columns_of, node_eps, node_term, node_terms, grad_div, row_into, row_reads}
use Rattle.lattice.proofs.GridLaws.{at_index}
use Rattle.numbers.proofs.Equations.{columns_of_nil, each_nil, columns_of_cons, each_cons}
use Rattle.numbers.proofs.LoopLaws.{columns_one}

-- ---- a position and its number

pub index_one : {g : Grid3d} {p q : Position} → Limits g → Inside g p → Inside g q → index_of g p ≡ index_of g q → p ≡ q
index_one {g} {p} {q} h a b e = sym (at_index h a) ∙ ap (at_of g) e ∙ at_index h b

module _ (l : FullLattice) (limits : Limits l.grid) {p : Position} (inside : Inside l.grid p) where
  pub fixed_at_lem : is_fixed l (index_of l.grid p) ≡ fixed_at l p
  unfolding is_fixed
  fixed_at_lem = rw (at_index limits inside)

  pub curl_e_at_lem : curl_e l (index_of l.grid p) ≡ curl_e_at l p
  unfolding curl_e
  curl_e_at_lem = rw (at_index limits inside)

  pub curl_h_at_lem : curl_h l (index_of l.grid p) ≡ curl_h_at l p
  unfolding curl_h
  curl_h_at_lem = rw (at_index limits inside)

  pub gradient_at_lem : gradient_of l (index_of l.grid p) ≡ gradient_at l p
  unfolding gradient_of
  gradient_at_lem = rw (at_index limits inside)

-- ---- the finest level

pub finest_cells : (l : FullLattice) (d : ℕ) → cells_at l d 0 ≡ n_of l.grid d
unfolding cells_at line_at finest_ends
finest_cells l d = omega (arith, length_tabulate twice (n_of l.grid d + 1) 0)

-- ---- what is held fixed

neither : (a b c : Bool) → (a || (b || c)) ≡ false → (a ≡ false) × (b ≡ false) × (c ≡ false)
neither true b c h = absurd (false≢true (sym h))
neither false true c h = absurd (false≢true (sym h))
neither false false c h = (refl, refl, h)

none_of : {a b c : Bool} → a ≡ false → b ≡ false → c ≡ false → (a || (b || c)) ≡ false
none_of x y z = rw (x, y, z)

-- what fails on the three axes fails on each
each_axis : (b : ℕ → Bool) → (b 0 || (b 1 || b 2)) ≡ false → (d : ℕ) → d < 3 → b d ≡ false
each_axis b h zero i = (neither (b 0) (b 1) (b 2) h).0
each_axis b h (suc zero) i = (neither (b 0) (b 1) (b 2) h).1
each_axis b h (suc (suc zero)) i = (neither (b 0) (b 1) (b 2) h).2
each_axis b h (suc (suc (suc d))) i = absurd (omega arith)

all_axes : (b : ℕ → Bool) → ((d : ℕ) → d < 3 → b d ≡ false) → (b 0 || (b 1 || b 2)) ≡ false
all_axes b h = none_of {a = b 0} {b = b 1} {c = b 2} (h 0 (omega arith)) (h 1 (omega arith)) (h 2 (omega arith))

module _ (l : FullLattice) (p : Position) where
  -- on a wall axis other than the edge's own its place is 0
  abbrev pub off_axis : ℕ → Bool
  off_axis d = not (eqb d p.component) && on_wall l p d

  -- an edge is free where that is so on no axis
  pub free_off : fixed_at l p ≡ false → (d : ℕ) → d < 3 → off_axis d ≡ false
  unfolding fixed_at
  free_off h = each_axis off_axis h

  pub off_free : ((d : ℕ) → d < 3 → off_axis d ≡ false) → fixed_at l p ≡ false
  unfolding fixed_at
  off_free h = all_axes off_axis h

module _ (l : FullLattice) (limits : Limits l.grid) {p : Position} (inside : Inside l.grid p) where
  -- a node is free where it is on no wall
  pub free_walls : is_node_fixed l (index_of l.grid p) ≡ false → (d : ℕ) → d < 3 → on_wall l p d ≡ false
  unfolding is_node_fixed
  free_walls h = each_axis (on_wall l p) (rw (at_index limits inside) at h)

  pub walls_free : ((d : ℕ) → d < 3 → on_wall l p d ≡ false) → is_node_fixed l (index_of l.grid p) ≡ false
  unfolding is_node_fixed
  walls_free h = rw (at_index limits inside) (all_axes (on_wall l p) h)

-- ---- those of some edges and nodes that are not fixed

module _ (l : FullLattice) where
  pub free_in : (c : ℕ) (cs : List ℕ) → In c (free_of l cs) → In c cs × (is_fixed l c ≡ false)
  unfolding free_of
  free_in c [] i = absurd i
  free_in c (d ∷ cs) i = go (is_fixed l d) refl i (free_in c cs)
    where
      go : (b : Bool) → is_fixed l d ≡ b → In c (cond b (free_of l cs) (d ∷ free_of l cs)) → (In c (free_of l cs) → In c cs × (is_fixed l c ≡ false))
          → ((c ≡ d) ⊎ In c cs) × (is_fixed l c ≡ false)
      go true e i ih = let u = ih i in (inr u.0, u.1)
      go false e (inl j) ih = (inl j, ap (is_fixed l) j ∙ e)
      go false e (inr j) ih = let u = ih j in (inr u.0, u.1)

  pub in_free : (c : ℕ) (cs : List ℕ) → In c cs → is_fixed l c ≡ false → In c (free_of l cs)
  unfolding free_of
  in_free c [] i h = elim i [ ]
  in_free c (d ∷ cs) i h = go (is_fixed l d) refl i (λ j. in_free c cs j h)
    where
      go : (b : Bool) → is_fixed l d ≡ b → (c ≡ d) ⊎ In c cs → (In c cs → In c (free_of l cs)) → In c (cond b (free_of l cs) (d ∷ free_of l cs))
      go true e (inl j) ih = absurd (false≢true (sym h ∙ ap (is_fixed l) j ∙ e))
      go true e (inr j) ih = ih j
      go false e (inl j) ih = inl j
      go false e (inr j) ih = inr (ih j)

  -- one by one
  pub free_each : (cs : List ℕ) → free_of l cs ≡ each (λ (c : ℕ). free_of l (c ∷ [])) cs
  unfolding free_of
  free_each [] = rw (each_nil (λ (c : ℕ). free_of l (c ∷ [])))
  free_each (c ∷ cs) = rw (each_cons (λ (d : ℕ). free_of l (d ∷ [])) c cs) (go (is_fixed l c) (free_each cs))
    where
      go : (b : Bool) → free_of l cs ≡ each (λ (d : ℕ). free_of l (d ∷ [])) cs
          → cond b (free_of l cs) (c ∷ free_of l cs) ≡ cond b [] (c ∷ []) ++ each (λ (d : ℕ). free_of l (d ∷ [])) cs
      go true e = e
      go false e = ap (λ (ds : List ℕ). c ∷ ds) e

  -- the nodes of some terms
  pub nodes_in : (c : ℕ) (ts : List Term) → In c (columns_of (free_nodes l ts)) → In c (columns_of ts) × (is_node_fixed l c ≡ false)
  unfolding free_nodes
  nodes_in c [] i = absurd (rw columns_of_nil at i)
  nodes_in c (t ∷ ts) i = rw (columns_of_cons t ts) (go (is_node_fixed l t.column) refl i (nodes_in c ts))
    where
      go : (b : Bool) → is_node_fixed l t.column ≡ b → In c (columns_of (cond b (free_nodes l ts) (t ∷ free_nodes l ts)))
          → (In c (columns_of (free_nodes l ts)) → In c (columns_of ts) × (is_node_fixed l c ≡ false))
          → ((c ≡ t.column) ⊎ In c (columns_of ts)) × (is_node_fixed l c ≡ false)
      go true e i ih = let u = ih i in (inr u.0, u.1)
      go false e i ih = first (rw (columns_of_cons t (free_nodes l ts)) at i)
        where
          first : (c ≡ t.column) ⊎ In c (columns_of (free_nodes l ts)) → ((c ≡ t.column) ⊎ In c (columns_of ts)) × (is_node_fixed l c ≡ false)
          first (inl j) = (inl j, ap (is_node_fixed l) j ∙ e)
          first (inr j) = let u = ih j in (inr u.0, u.1)

  pub in_nodes : (c : ℕ) (ts : List Term) → In c (columns_of ts) → is_node_fixed l c ≡ false → In c (columns_of (free_nodes l ts))
  unfolding free_nodes
  in_nodes c [] i h = absurd (rw columns_of_nil at i)
  in_nodes c (t ∷ ts) i h = go (is_node_fixed l t.column) refl (rw (columns_of_cons t ts) at i) (λ j. in_nodes c ts j h)
    where
      go : (b : Bool) → is_node_fixed l t.column ≡ b → (c ≡ t.column) ⊎ In c (columns_of ts) → (In c (columns_of ts) → In c (columns_of (free_nodes l ts)))
          → In c (columns_of (cond b (free_nodes l ts) (t ∷ free_nodes l ts)))
      go true e (inl j) ih = absurd (false≢true (sym h ∙ ap (is_node_fixed l) j ∙ e))
      go true e (inr j) ih = ih j
      go false e (inl j) ih = rw (columns_of_cons t (free_nodes l ts)) (inl j)
      go false e (inr j) ih = rw (columns_of_cons t (free_nodes l ts)) (inr (ih j))

  pub free_append : (ts us : List Term) → free_nodes l (ts ++ us) ≡ free_nodes l ts ++ free_nodes l us
  unfolding free_nodes
  free_append [] us = refl
  free_append (t ∷ ts) us = go (is_node_fixed l t.column) (free_append ts us)
    where
      go : (b : Bool) → free_nodes l (ts ++ us) ≡ free_nodes l ts ++ free_nodes l us
          → cond b (free_nodes l (ts ++ us)) (t ∷ free_nodes l (ts ++ us)) ≡ cond b (free_nodes l ts) (t ∷ free_nodes l ts) ++ free_nodes l us
      go true e = e
      go false e = ap (λ (v : List Term). t ∷ v) e

-- ---- the columns of a row

module _ (l : FullLattice) where
  -- the free edges of curl E at a face
  unfoldable pub face_columns : ℕ → List ℕ
  face_columns q = free_of l (columns_of (curl_e l q))

  pub face_columns_is : (q : ℕ) → face_columns q ≡ free_of l (columns_of (curl_e l q))
  unfolding face_columns
  face_columns_is q = refl

  -- terms at the free edges of a list
  free_terms_lem : (f : Term → List Term) (v : Term → C64) → ((t : Term) → f t ≡ cond (is_fixed l t.column) [] (record { column = t.column; number = v t } ∷ []))
      → (ts : List Term) → columns_of (each f ts) ≡ free_of l (columns_of ts)
  unfolding free_of
  free_terms_lem f v h [] = rw (each_nil f, columns_of_nil)
  free_terms_lem f v h (t ∷ ts) =
      rw (each_cons f t ts, columns_of_cons t ts)
      (columns_append (f t) (each f ts) ∙ (λ i. columns_of (h t i) ++ free_terms_lem f v h ts i) ∙ go (is_fixed l t.column))
    where
      go : (b : Bool) → columns_of (cond b [] (record { column = t.column; number = v t } ∷ [])) ++ free_of l (columns_of ts)
          ≡ cond b (free_of l (columns_of ts)) (t.column ∷ free_of l (columns_of ts))
      go true = rw columns_of_nil
      go false = rw (columns_one (record { column = t.column; number = v t }))

  face_columns_lem : (t : Term) → columns_of (face_terms l t) ≡ face_columns t.column
  unfolding face_terms face_term face_columns
  face_columns_lem t = free_terms_lem (face_term l t.number) _ (λ u. refl) (curl_e l t.column)

  node_columns : (f : ℕ → C64) (t : Term) → columns_of (node_terms l f t) ≡ free_columns l t.column
  unfolding node_terms node_term free_columns
  node_columns f t = free_terms_lem (node_term l f t.number (real_over one_f (node_eps l f t.column))) _ (λ u. refl) (divergence_of l t.column)

  -- its own, the free edges of the curl E of each face of its curl H, and those of the divergence at each node of its gradient; its own alone where
  -- it is fixed
  pub row_columns_lem : (f : ℕ → C64) (r : ℕ)
      → columns_of (row_into l f r) ≡ cond (is_fixed l r) (r ∷ []) (r ∷ (each face_columns (columns_of (curl_h l r)) ++ each (free_columns l) (columns_of (gradient_of l r))))
  unfolding row_into curl_curl grad_div
  row_columns_lem f r = go (is_fixed l r)
    where
      go : (b : Bool) → columns_of (cond b (record { column = r; number = one_number } ∷ []) (record { column = r; number = real_times (mul_f l.k0 l.k0) (f r) } ∷ (curl_curl l r ++ grad_div l f r)))
          ≡ cond b (r ∷ []) (r ∷ (each face_columns (columns_of (curl_h l r)) ++ each (free_columns l) (columns_of (gradient_of l r))))
      go true = rw (columns_one (record { column = r; number = one_number }))
      go false =
          rw (columns_of_cons (record { column = r; number = real_times (mul_f l.k0 l.k0) (f r) }) (curl_curl l r ++ grad_div l f r)) (ap (λ (cs : List ℕ). r ∷ cs)
          (columns_append (curl_curl l r) (grad_div l f r)
          ∙ (λ i. columns_each (face_terms l) face_columns face_columns_lem (curl_h l r) refl i
          ++ columns_each (node_terms l f) (free_columns l) (node_columns f) (gradient_of l r) refl i)))

  -- they do not turn on the permittivities
  pub row_columns_same : (f g : ℕ → C64) (r : ℕ) → columns_of (row_into l f r) ≡ columns_of (row_into l g r)
  row_columns_same f g r = row_columns_lem f r ∙ sym (row_columns_lem g r)

  -- the diagonal is there
  pub row_own : (f : ℕ → C64) (r : ℕ) → In r (columns_of (row_into l f r))
  row_own f r = rw (row_columns_lem f r) (go (is_fixed l r))
    where
      go : (b : Bool) → In r (cond b (r ∷ []) (r ∷ (each face_columns (columns_of (curl_h l r)) ++ each (free_columns l) (columns_of (gradient_of l r)))))
      go true = inl refl
      go false = inl refl

  -- the row of an edge that is fixed: 1 on the diagonal
  pub row_fixed : (f : ℕ → C64) (r : ℕ) → is_fixed l r ≡ true → row_into l f r ≡ record { column = r; number = one_number } ∷ []
  unfolding row_into
  row_fixed f r h = rw h

-- ---- the permittivities that a row reads

module _ (l : FullLattice) where
  -- its own, and those of the free edges of the divergence at each node of its gradient; none where it is fixed
  pub row_reads_lem : (r : ℕ) → row_reads l r ≡ cond (is_fixed l r) [] (r ∷ each (free_columns l) (columns_of (gradient_of l r)))
  unfolding row_reads free_columns_of
  row_reads_lem r = ap (λ (cs : List ℕ). cond (is_fixed l r) [] (r ∷ cs)) (go (gradient_of l r))
    where
      go : (ts : List Term) → each (free_columns_of l) ts ≡ each (free_columns l) (columns_of ts)
      go [] = rw (each_nil (free_columns_of l), columns_of_nil, each_nil (free_columns l))
      go (t ∷ ts) =
          rw (each_cons (free_columns_of l) t ts, columns_of_cons t ts, each_cons (free_columns l) t.column (columns_of ts))
          (ap (λ (cs : List ℕ). free_columns l t.column ++ cs) (go ts))

  pub own_read : (r : ℕ) → is_fixed l r ≡ false → Member r (row_reads l r)
  unfolding row_reads
  own_read r h = rw h (head refl)
