-- What a list of columns has, by their positions: lists one behind another, what `each` gives, and those that are not fixed.
-- Assumes nothing.
use Prim.Native.Nat.{ℕ}
use mathlib.Core.Path.{◌≡◌, sym, ◌∙◌, ap, subst}
use mathlib.Core.Logic.{◌⊎◌, inl, inr, ⊎_elim, ◌↔◌}
use mathlib.Core.Bool.{true, false}
use mathlib.Core.List.{List, ◌++◌}
use Rattle.lattice.specs.declared.grid.Position.{Position}
use Rattle.lattice.specs.Grid.{index_of, Limits, Inside}
use Rattle.lattice.specs.Lattice.{FullLattice}
use Rattle.lattice.specs.Neighbours.{fixed_at, is_fixed, is_node_fixed}
use Rattle.lattice.specs.Curls.{free_nodes}
use Rattle.lattice.specs.Rows.{free_of}
use Rattle.numbers.specs.Terms.{Term, columns_of}
use Rattle.numbers.specs.Lists.{In, each, contains}
use Rattle.numbers.proofs.EachLaws.{columns_append}
use Rattle.numbers.proofs.MemberLaws.{in_append, in_left, in_right, each_in, in_each, contains_in, in_contains}
use Rattle.lattice.proofs.ColumnLaws.{fixed_at_lem, free_in, in_free, nodes_in, in_nodes, index_one}

-- column c is the number of a position for which P holds
pub record Found (l : FullLattice) (P : Position → Type 0) (c : ℕ) : Type 0 where
  pub at : Position
  pub inside : Inside l.grid at
  pub is : index_of l.grid at ≡ c
  pub held : P at

-- the columns are the numbers of the positions for which P holds
pub record Listed (l : FullLattice) (P : Position → Type 0) (cs : List ℕ) : Type 0 where
  pub there : (c : ℕ) → In c cs → Found l P c
  pub back : (q : Position) → Inside l.grid q → P q → In (index_of l.grid q) cs

-- the terms' columns are
abbrev pub Lists : FullLattice → (Position → Type 0) → List Term → Type 0
Lists l P ts = Listed l P (columns_of ts)

pub lists_contain : (l : FullLattice) (P : Position → Type 0) (ts : List Term) (q : Position) → Limits l.grid → Inside l.grid q → Lists l P ts
    → (contains (index_of l.grid q) (columns_of ts) ≡ true) ↔ P q
lists_contain l P ts q h a u =
    let c = index_of l.grid q in (
      (λ e. let t = u.there c (contains_in c (columns_of ts) e) in subst P (index_one h t.inside a t.is) t.held),
      (λ b. in_contains c (columns_of ts) (u.back q a b)),
    )

pub lists_same : {l : FullLattice} {cs : List ℕ} (P Q : Position → Type 0) → ((q : Position) → Inside l.grid q → P q ↔ Q q) → Listed l P cs → Listed l Q cs
lists_same P Q h u =
    record {
      there = λ c i. let t = u.there c i in record { at = t.at; inside = t.inside; is = t.is; held = (h t.at t.inside).0 t.held };
      back = λ q a b. u.back q a ((h q a).1 b);
    }

pub listed_append : {l : FullLattice} (P Q : Position → Type 0) (us vs : List ℕ) → Listed l P us → Listed l Q vs → Listed l (λ q. P q ⊎ Q q) (us ++ vs)
listed_append {l} P Q us vs u v =
    record {
      there = λ c i. ⊎_elim
          (λ j. let t = u.there c j in record { at = t.at; inside = t.inside; is = t.is; held = inl t.held })
          (λ j. let t = v.there c j in record { at = t.at; inside = t.inside; is = t.is; held = inr t.held })
          (in_append c us vs i);
      back = λ q a b.
          let c = index_of l.grid q in
          ⊎_elim (λ d. in_left c us vs (u.back q a d)) (λ d. in_right c us vs (v.back q a d)) b;
    }

pub lists_append : {l : FullLattice} (P Q : Position → Type 0) (ts us : List Term) → Lists l P ts → Lists l Q us → Lists l (λ q. P q ⊎ Q q) (ts ++ us)
lists_append P Q ts us u v = rw (columns_append ts us) (listed_append P Q (columns_of ts) (columns_of us) u v)

-- by way of a position of the list
pub record Through (l : FullLattice) (P : Position → Type 0) (Q : Position → Position → Type 0) (q : Position) : Type 0 where
  pub by : Position
  pub inside : Inside l.grid by
  pub first : P by
  pub second : Q by q

pub listed_each : {l : FullLattice} (P : Position → Type 0) (Q : Position → Position → Type 0) (f : ℕ → List ℕ) (cs : List ℕ)
    → Listed l P cs → ((s : Position) → Inside l.grid s → Listed l (Q s) (f (index_of l.grid s)))
    → Listed l (Through l P Q) (each f cs)
listed_each {l} P Q f cs u h =
    record {
      there = λ c i.
          let e = each_in f cs c i in
          let s = u.there e.by e.there in
          let t = (h s.at s.inside).there c (rw (← s.is) at e.gives) in
          record { at = t.at; inside = t.inside; is = t.is; held = record { by = s.at; inside = s.inside; first = s.held; second = t.held } };
      back = λ q a b.
          in_each f cs (index_of l.grid q) (index_of l.grid b.by) (u.back b.by b.inside b.first) ((h b.by b.inside).back q a b.second);
    }

-- ---- what is not fixed

module _ (l : FullLattice) where
  -- the edges
  pub listed_free : Limits l.grid → (P : Position → Type 0) (cs : List ℕ) → Listed l P cs → Listed l (λ q. P q × (fixed_at l q ≡ false)) (free_of l cs)
  listed_free limits P cs u =
      record {
        there = λ c i.
            let v = free_in l c cs i in
            let t = u.there c v.0 in
            record { at = t.at; inside = t.inside; is = t.is; held = (t.held, sym (fixed_at_lem l limits t.inside) ∙ ap (is_fixed l) t.is ∙ v.1) };
        back = λ q a b. in_free l (index_of l.grid q) cs (u.back q a b.0) (fixed_at_lem l limits a ∙ b.1);
      }

  -- the nodes
  pub lists_free : (P : Position → Type 0) (ts : List Term) → Lists l P ts → Lists l (λ q. P q × (is_node_fixed l (index_of l.grid q) ≡ false)) (free_nodes l ts)
  lists_free P ts u =
      record {
        there = λ c i.
            let v = nodes_in l c ts i in
            let t = u.there c v.0 in
            record { at = t.at; inside = t.inside; is = t.is; held = (t.held, ap (is_node_fixed l) t.is ∙ v.1) };
        back = λ q a b. in_nodes l (index_of l.grid q) ts (u.back q a b.0) b.1;
      }
