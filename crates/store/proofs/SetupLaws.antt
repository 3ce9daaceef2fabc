-- What a setup starts from has the lattice's structure and the given permittivities; and demand 3 over the list of permittivities that the book holds. Assumes nothing.
use Prim.Native.Nat.{ℕ, suc, ◌+◌, ◌-◌, ◌*◌, ◌/◌, ◌%◌, ◌≤◌, ◌<◌}
use mathlib.Core.Path.{◌≡◌, refl, sym, ap, subst, ◌∙◌}
use mathlib.Core.Logic.{inl, inr, ⊎_elim}
use mathlib.Core.Bool.{Bool, false, cond}
use mathlib.Core.List.{List, ◌∷◌, []}
use mathlib.Core.Option.{Option, none, some}
use native.Mathlib.Omega.{arith}
use native.Mathlib.Decide.{ℕ_discrete, dec_lt}
use lib.Dec.{eqb, ltb}
use lib.ListN.{length, get_or}
use lib.Ieee.{Float, nan}
use borrow.Author.Tests.{eq-eqb, ne_eqb, le-ltb, ltb-true}
use Rattle.std.proofs.lemmas.Bool.{cases_Bool}
use Rattle.numbers.specs.Complex.{no_number}
use Rattle.numbers.specs.Places.{number_at, set_number}
use Rattle.numbers.specs.Lists.{rows, laid_numbers, starts_of, In}
use Rattle.numbers.proofs.Laws.{number_same, number_other, length_set_number}
use Rattle.numbers.proofs.TabulateLaws.{length_tabulate, tabulate_at_0}
use Rattle.numbers.proofs.ListLaws.{laid_length, laid_numbers_length, laid_numbers_at}
use Rattle.numbers.proofs.SumLaws.{sum_to_zero}
use Rattle.numbers.proofs.Equations.{places_is}
use Rattle.numbers.proofs.PartLaws.{cols_long, part_at_lem, part_long, part_room, starts_at, starts_long}
use Rattle.lattice.specs.Grid.{Limits}
use Rattle.lattice.specs.Lattice.{FullLattice}
use Rattle.lattice.specs.Levels.{line_at}
use Rattle.operators.specs.LevelLists.{edges_on}
use Rattle.store.specs.Plan.{run}
use Rattle.store.specs.Book.{Done, outcome, after, answers, set_up, change, note, values_after}
use Rattle.store.specs.Store.{Store, sizes}
use Rattle.store.specs.Places.{Place, get, space, ends_at, permittivities_at, forward_starts_at, forward_columns_at, forward_values_at, turned_starts_at, turned_columns_at, turned_values_at, operator_starts_at, operator_columns_at, operator_values_at, scaling_at}
use Rattle.store.specs.Spots.{permittivity, spot, cells, double_of, part_of, laid_from}
use Rattle.store.specs.Layout.{forward_cols, turned_cols, operator_cols, next_edges, first_stored, forward_count, turned_count, operator_count, stored_count, Enough}
use Rattle.store.specs.declared.Choice.{Choice}
use Rattle.store.specs.Rows.{rules, full}
use Rattle.store.specs.Changes.{Change, Why, NoEdge, changes}
use Rattle.store.specs.Landed.{Given, Laid}
use Rattle.store.specs.Setup.{forward_starts_of, forward_cols_of, turned_starts_of, turned_cols_of, operator_starts_of, operator_cols_of, ends_part}
use Rattle.store.specs.Work.{Structured}
use Rattle.store.specs.Load.{load, given}
use Rattle.store.proofs.PlaceLaws.{puts_is}
use Rattle.store.proofs.ListTheorem.{values_load}
use Rattle.store.proofs.SpaceLaws.{lawful}
use Rattle.store.proofs.LandedLaws.{set_up_laid}
use Rattle.store.proofs.RangeLaws.{ranges}
use Rattle.store.proofs.StoreLaws.{store_book, chain_most}
use Rattle.store.proofs.WorkLaws.{look_list, laid_double, rest_double}

module _ (l : FullLattice) (ch : Choice) (m : ℕ) (b : Store) (enough : Enough l ch m (sizes b)) (eps : List Float) where
  -- THE STRUCTURE IS THE LATTICE'S
  pub load_structured : Structured l ch m (load l ch m b eps)
  load_structured =
      record {
        ends_are = λ q j h i. part_at_lem (ends_part l) (λ i. length (line_at l (i % 3) (i / 3))) (λ i. refl) b.ends (3 * suc m) enough.ends_room q j h i;
        forward_are = λ L h.
            record {
              starts_are = λ r i.
                  part_at_lem (forward_starts_of l) (λ i. edges_on l i + 1) (λ i. starts_long (forward_cols l i) (edges_on l i)) b.forward_starts m enough.forward_starts_are L r h (omega arith)
                  ∙ starts_at (forward_cols l L) (edges_on l L) r i;
              columns_are = λ q i. part_at_lem (forward_cols_of l) (forward_count l) (λ i. cols_long (forward_cols l i) (edges_on l i)) b.forward_columns m enough.forward_columns_are L q h i;
            };
        turned_are = λ L h.
            record {
              starts_are = λ r i.
                  part_at_lem (turned_starts_of l) (λ i. next_edges l i + 1) (λ i. starts_long (turned_cols l i) (edges_on l (suc i))) b.turned_starts m enough.turned_starts_are L r h (omega arith)
                  ∙ starts_at (turned_cols l L) (edges_on l (suc L)) r i;
              columns_are = λ q i. part_at_lem (turned_cols_of l) (turned_count l) (λ i. cols_long (turned_cols l i) (edges_on l (suc i))) b.turned_columns m enough.turned_columns_lem L q h i;
            };
        operator_are = λ L f h.
            let k : ltb L (first_stored m) ≡ false = le-ltb L (first_stored m) f in
            let x : operator_starts_of l ch m L ≡ starts_of (operator_cols l ch L) (edges_on l L) = rw k refl in
            let y : operator_cols_of l ch m L ≡ rows (operator_cols l ch L) (edges_on l L) = rw k refl in
            let z : cond (ltb L (first_stored m)) 0 (edges_on l L + 1) ≡ edges_on l L + 1 = rw k refl in
            let u : stored_count l ch m L ≡ operator_count l ch L = rw k refl in
            record {
              starts_are = λ r i.
                  part_at_lem (operator_starts_of l ch m) (λ i. cond (ltb i (first_stored m)) 0 (edges_on l i + 1))
                  (λ i. part_long (ltb i (first_stored m)) (starts_of (operator_cols l ch i) (edges_on l i)) (edges_on l i + 1) (starts_long (operator_cols l ch i) (edges_on l i)))
                  b.operator_starts (suc m) enough.operator_starts_are L r (omega arith) (omega arith)
                  ∙ ap (λ (xs : List ℕ). get_or xs r 0) x ∙ starts_at (operator_cols l ch L) (edges_on l L) r i;
              columns_are = λ q i.
                  part_at_lem (operator_cols_of l ch m) (stored_count l ch m)
                  (λ i. part_long (ltb i (first_stored m)) (rows (operator_cols l ch i) (edges_on l i)) (operator_count l ch i) (cols_long (operator_cols l ch i) (edges_on l i)))
                  b.operator_columns (suc m) enough.operator_columns_are L q (omega arith) (omega arith)
                  ∙ ap (λ (xs : List ℕ). get_or xs q 0) y;
            };
      }

  given_long : length (given (edges_on l 0) eps) ≡ edges_on l 0
  given_long = length_tabulate (number_at (eps)) (edges_on l 0) 0

  eps_room : 2 * (0 + length (given (edges_on l 0) eps)) ≤ length b.permittivities
  eps_room = omega (arith, given_long, sum_to_zero (edges_on l), part_room (edges_on l) 0 (suc m) (omega arith), chain_most l ch m, enough.eps_room)

  -- AND THE PERMITTIVITIES ARE THE GIVEN ONES
  pub load_given : Given l (number_at (eps)) (load l ch m b eps)
  load_given r h =
      let z : 0 + r ≡ r = omega arith in
      look_list (load l ch m b eps) permittivity r
      ∙ (rw z at (laid_numbers_at b.permittivities 0 (given (edges_on l 0) eps) r no_number (omega (arith, given_long)) eps_room))
      ∙ tabulate_at_0 (number_at (eps)) (edges_on l 0) r no_number h

  pub load_sizes : sizes (load l ch m b eps) ≡ sizes b
  load_sizes =
      λ i.
      record {
        ends = laid_length b.ends 0 (rows (ends_part l) (3 * suc m)) i;
        permittivities = laid_numbers_length b.permittivities 0 (given (edges_on l 0) eps) i;
        forward_starts = laid_length b.forward_starts 0 (rows (forward_starts_of l) m) i;
        forward_columns = laid_length b.forward_columns 0 (rows (forward_cols_of l) m) i;
        forward_values = length b.forward_values;
        turned_starts = laid_length b.turned_starts 0 (rows (turned_starts_of l) m) i;
        turned_columns = laid_length b.turned_columns 0 (rows (turned_cols_of l) m) i;
        turned_values = length b.turned_values;
        operator_starts = laid_length b.operator_starts 0 (rows (operator_starts_of l ch m) (suc m)) i;
        operator_columns = laid_length b.operator_columns 0 (rows (operator_cols_of l ch m) (suc m)) i;
        operator_values = length b.operator_values;
        scaling = length b.scaling;
      }

  -- a setup leaves, in every row, what the layers below say of the given permittivities
  pub set_up_landed : Limits l.grid → Laid l ch m (number_at (eps)) (run (rules l ch m) (full l ch m) (load l ch m b eps))
  set_up_landed limits = set_up_laid l ch m limits (load l ch m b eps) (rw load_sizes enough) (number_at (eps)) load_given

-- ---- the book holds a list of permittivities

-- n numbers
pub record Values (n : ℕ) : Type 0 where
  pub list : List Float
  pub long : length list ≡ 2 * n

abbrev pub revise : {n : ℕ} → Values n → Change → Values n
revise {n} v c = record { list = set_number v.list c.edge c.value; long = length_set_number v.list c.edge c.value ∙ v.long }

module _ (l : FullLattice) (ch : Choice) (m : ℕ) (b : Store) (enough : Enough l ch m (sizes b)) where
  -- a number of the revised list
  revised : (v : Values (edges_on l 0)) (c : Change) → c.edge < edges_on l 0 → (j : ℕ) → j < edges_on l 0
      → get_or (given (edges_on l 0) (revise v c).list) j no_number ≡ cond (eqb j c.edge) c.value (get_or (given (edges_on l 0) v.list) j no_number)
  revised v c h j i =
      tabulate_at_0 (number_at (set_number v.list c.edge c.value)) (edges_on l 0) j no_number i
      ∙ (elim (ℕ_discrete j c.edge) as (λ _. number_at (set_number v.list c.edge c.value) j ≡ cond (eqb j c.edge) c.value (get_or (given (edges_on l 0) v.list) j no_number)) [
        | yes z ↦ rw (eq-eqb j c.edge z) (rw z (number_same v.list c.edge c.value (omega (arith, places_is v.list, v.long))))
        | no z ↦ rw (ne_eqb j c.edge z) (number_other v.list c.edge j c.value z ∙ sym (tabulate_at_0 (number_at v.list) (edges_on l 0) j no_number i))
      ])

  -- the doubles of the permittivities after a change
  new_double : (v : Values (edges_on l 0)) (c : Change) → c.edge < edges_on l 0 → (j : ℕ) → j / 2 ≡ c.edge
      → get_or (laid_numbers b.permittivities 0 (given (edges_on l 0) (revise v c).list)) j nan ≡ double_of (c.value ∷ []) c.edge j
  unfolding double_of
  new_double v c h j e =
      let k = j / 2 in
      let n = given_long l ch m b enough (revise v c).list in
      let z : j / 2 - 0 ≡ j / 2 = omega arith in
      let y : j / 2 - c.edge ≡ 0 = omega arith in
      laid_double b.permittivities 0 (given (edges_on l 0) (revise v c).list) j (eps_room l ch m b enough (revise v c).list) (omega arith) (omega arith)
      ∙ rw (z, y) (ap (part_of j) (revised v c h (j / 2) (omega arith) ∙ rw (eq-eqb (j / 2) c.edge e) refl))

  old_double : (v : Values (edges_on l 0)) (c : Change) → c.edge < edges_on l 0 → (j : ℕ) → (j / 2 ≡ c.edge → ⊥)
      → get_or (laid_numbers b.permittivities 0 (given (edges_on l 0) (revise v c).list)) j nan ≡ get_or (laid_numbers b.permittivities 0 (given (edges_on l 0) v.list)) j nan
  unfolding double_of
  old_double v c h j e =
      let n = given_long l ch m b enough (revise v c).list in
      let k = given_long l ch m b enough v.list in
      elim (dec_lt j (2 * edges_on l 0)) as (λ _. get_or (laid_numbers b.permittivities 0 (given (edges_on l 0) (revise v c).list)) j nan ≡ get_or (laid_numbers b.permittivities 0 (given (edges_on l 0) v.list)) j nan) [
        | yes i ↦ let z : j / 2 - 0 ≡ j / 2 = omega arith in
            let q : double_of (given (edges_on l 0) (revise v c).list) 0 j ≡ double_of (given (edges_on l 0) v.list) 0 j =
            rw z (ap (part_of j) (revised v c h (j / 2) (omega arith) ∙ ap (λ (t : Bool). cond t c.value (get_or (given (edges_on l 0) v.list) (j / 2) no_number)) (ne_eqb (j / 2) c.edge e))) in
            laid_double b.permittivities 0 (given (edges_on l 0) (revise v c).list) j (eps_room l ch m b enough (revise v c).list) (omega arith) (omega arith) ∙ q
            ∙ sym (laid_double b.permittivities 0 (given (edges_on l 0) v.list) j (eps_room l ch m b enough v.list) (omega arith) (omega arith))
        | no i ↦ rest_double b.permittivities 0 (given (edges_on l 0) (revise v c).list) j (λ x y. i (omega arith)) ∙ sym (rest_double b.permittivities 0 (given (edges_on l 0) v.list) j (λ x y. i (omega arith)))
      ]

  abbrev IsNone : Option Why → Type 0
  IsNone none = Unit {0}
  IsNone (some y) = ⊥

  pub edge_there : (c : Change) → (changes l).bad c ≡ none → c.edge < edges_on l 0
  edge_there c e =
      ⊎_elim (λ t. ltb-true c.edge (edges_on l 0) t) (λ t. let f : some NoEdge ≡ none = rw t at e in absurd (subst IsNone (sym f) tt)) (cases_Bool (ltb c.edge (edges_on l 0)))

  -- a change of the list is the change of the store that is loaded from it
  pub fits : (v : Values (edges_on l 0)) (c : Change) → (changes l).bad c ≡ none → load l ch m b (revise v c).list ≡ (changes l).edit (load l ch m b v.list) c
  fits v c good =
      let h = edge_there c good in
      puts_is space lawful (load l ch m b v.list) (load l ch m b (revise v c).list) (cells (spot permittivity c.edge)) (laid_from (c.value ∷ []) c.edge)
      (load_sizes l ch m b enough (revise v c).list ∙ sym (load_sizes l ch m b enough v.list)) (inside h) (outside h)
    where
      inside : c.edge < edges_on l 0 → (p : Place) → In p (cells (spot permittivity c.edge)) → get (load l ch m b (revise v c).list) p ≡ laid_from (c.value ∷ []) c.edge p
      inside h p (inl z) = rw z (unfold get laid_from in new_double v c h (2 * c.edge) (omega arith))
      inside h p (inr (inl z)) = rw z (unfold get laid_from in new_double v c h (2 * c.edge + 1) (omega arith))
      inside h p (inr (inr i)) = absurd i

      outside : c.edge < edges_on l 0 → (p : Place) → (In p (cells (spot permittivity c.edge)) → ⊥) → get (load l ch m b (revise v c).list) p ≡ get (load l ch m b v.list) p
      outside h (ends_at j) n = unfold get in refl
      outside h (permittivities_at j) n =
          unfold get in
          old_double v c h j
          (λ e. elim (ℕ_discrete (j % 2) 0) as (λ _. ⊥) [
            | yes z ↦ let k : j ≡ 2 * c.edge = omega arith in n (inl (ap permittivities_at k))
            | no z ↦ let k : j ≡ 2 * c.edge + 1 = omega arith in n (inr (inl (ap permittivities_at k)))
          ])
      outside h (forward_starts_at j) n = unfold get in refl
      outside h (forward_columns_at j) n = unfold get in refl
      outside h (forward_values_at j) n = unfold get in refl
      outside h (turned_starts_at j) n = unfold get in refl
      outside h (turned_columns_at j) n = unfold get in refl
      outside h (turned_values_at j) n = unfold get in refl
      outside h (operator_starts_at j) n = unfold get in refl
      outside h (operator_columns_at j) n = unfold get in refl
      outside h (operator_values_at j) n = unfold get in refl
      outside h (scaling_at j) n = unfold get in refl

  -- DEMAND 3: the book holds a list, at first the setup's permittivities. After any changes the store is what a setup from the book's list leaves in the lists as they were,
  -- and every answer is the book's
  pub demand_3 : Limits l.grid → (v : Values (edges_on l 0)) → (set_up (rules l ch m) Why (load l ch m b v.list)).answer ≡ Done → (cs : List Change)
      → (set_up (rules l ch m) Why (load l ch m b (values_after (rules l ch m) (changes l) (λ v. load l ch m b v.list) revise v cs).list)
      ≡ outcome Done (after (change (rules l ch m) (changes l)) (set_up (rules l ch m) Why (load l ch m b v.list)).store cs))
      × (answers (change (rules l ch m) (changes l)) (set_up (rules l ch m) Why (load l ch m b v.list)).store cs ≡ answers (note (rules l ch m) (changes l)) (load l ch m b v.list) cs)
  demand_3 limits v done cs =
      let t = store_book l ch m (ranges l limits) (sizes b) enough (load l ch m b v.list) (load_sizes l ch m b enough v.list) done cs in
      (ap (set_up (rules l ch m) Why) (values_load (rules l ch m) (changes l) (λ v. load l ch m b v.list) revise fits v cs) ∙ t.0, t.1)
