-- Turned rows against forward rows that stand in lists: each term is looked for at the next free place of its column's row.
-- Assumes nothing.
use Prim.Native.Nat.{ℕ, zero, suc, ◌+◌, ◌-◌, ◌≤◌, ◌<◌}
use mathlib.Core.Path.{◌≡◌, refl, sym, ap, ◌∙◌, subst}
use mathlib.Core.Logic.{◌⊎◌, inl, inr}
use mathlib.Core.Bool.{Bool, true, false, false≢true}
use mathlib.Core.List.{List, ◌∷◌, [], ◌++◌}
use native.Mathlib.Omega.{arith}
use native.Mathlib.Decide.{dec_lt}
use lib.Dec.{eqb}
use lib.ListN.{length, get_or, set, length-append, length-set}
use lib.Seq.{get_or-set_same, get_or-set_other}
use borrow.Author.Tests.{eq-eqb, eqb-true, eqb-false}
use Rattle.std.proofs.lemmas.Bool.{and_from, cases_Bool, false_from_ne_true, and_parts}
use Rattle.numbers.specs.declared.terms.Part.{Part}
use Rattle.numbers.specs.Lists.{In, rows, start_of, starts_of, places_in, entry_at}
use Rattle.numbers.specs.Transpose.{named_from, named_part, turned_columns}
use Rattle.numbers.proofs.Equations.{tabulate_zero, rows_zero, rows_suc}
use Rattle.numbers.proofs.ListLaws.{tabulate_append, tabulate_more, rows_agree}
use Rattle.numbers.proofs.PartLaws.{rows_append}
use Rattle.numbers.proofs.TurnedLaws.{turned_columns_is, named_nil, named_one, named_append}
use Rattle.numbers.proofs.CollectSums.{in_at}
use Rattle.numbers.proofs.LoopLaws.{start_zero, start_suc}
use Rattle.numbers.proofs.StoredLaws.{start_room}
use Rattle.store.specs.Calls.{matches}
use Rattle.store.specs.Compare.{rows_match, PartRoom, TurnFits, TurnedBy, term_in, named_in, named_by, Walkable, BeginsTo, Begins}
use Rattle.store.proofs.MatchLaws.{matches_append, matches_told, matches_places, start_told, row_told, Going, going_start, going_turn, going_end}

-- ---- what fits, one behind another

module _ (vs ws : List ℕ) {next us : List ℕ} {tk count c : ℕ} where
  fits_first : TurnFits (vs ++ ws) next us tk count c → TurnFits vs next us tk count c
  fits_first u =
      record {
        low = λ i h. u.low i (omega (arith, length-append vs ws));
        there = (and_parts (matches us (tk + get_or next c 0) vs) (matches us (tk + get_or next c 0 + length vs) ws) (sym (matches_append us (tk + get_or next c 0) vs ws) ∙ u.there)).0;
      }

  fits_second : {next' : List ℕ} → get_or next' c 0 ≡ get_or next c 0 + length vs → TurnFits (vs ++ ws) next us tk count c → TurnFits ws next' us tk count c
  fits_second {next'} e u =
      let z : tk + get_or next' c 0 ≡ tk + get_or next c 0 + length vs = omega arith in
      record {
        low = λ i h. omega (arith, u.low (length vs + i) (omega (arith, length-append vs ws)));
        there = rw z (and_parts (matches us (tk + get_or next c 0) vs) (matches us (tk + get_or next c 0 + length vs) ws) (sym (matches_append us (tk + get_or next c 0) vs ws) ∙ u.there)).1;
      }

  fits_both : {next' : List ℕ} → get_or next' c 0 ≡ get_or next c 0 + length vs → TurnFits vs next us tk count c → TurnFits ws next' us tk count c → TurnFits (vs ++ ws) next us tk count c
  fits_both {next'} e u w =
      let z : tk + get_or next' c 0 ≡ tk + get_or next c 0 + length vs = omega arith in
      record {
        low = λ i h. go i (dec_lt i (length vs)) h;
        there = matches_append us (tk + get_or next c 0) vs ws ∙ and_from _ _ u.there (rw z at w.there);
      }
    where
      go : (i : ℕ) → Dec (i < length vs) → i < length (vs ++ ws) → get_or next c 0 + i < count
      go i (yes b) h = u.low i b
      go i (no b) h = omega (arith, w.low (i - length vs) (omega (arith, length-append vs ws)))

-- ---- turned rows, one behind another

module _ {m : ℕ} {us : List ℕ} {tk count : ℕ} where
  turned_none : {vs : ℕ → List ℕ} {next : List ℕ} → ((c : ℕ) → vs c ≡ []) → TurnedBy vs m next us tk count true next
  unfolding matches
  turned_none {next = next} none =
      record {
        long = refl;
        fits = λ e c h. rw (none c) (record { low = λ i b. absurd (omega arith); there = refl });
        behind = λ e c h. omega (arith, ap length (none c));
        fails = λ e u. false≢true (sym e);
      }

  pub turned_agree : {vs ws : ℕ → List ℕ} {next next' : List ℕ} {b : Bool} → ((c : ℕ) → c < m → vs c ≡ ws c) → TurnedBy vs m next us tk count b next' → TurnedBy ws m next us tk count b next'
  turned_agree {next = next} same u =
      record {
        long = u.long;
        fits = λ e c h. subst (λ (vs : List ℕ). TurnFits vs next us tk count c) (same c h) (u.fits e c h);
        behind = λ e c h. omega (arith, u.behind e c h, ap length (same c h));
        fails = λ e w. u.fails e (λ c h. subst (λ (vs : List ℕ). TurnFits vs next us tk count c) (sym (same c h)) (w c h));
      }

  turned_then : {vs ws : ℕ → List ℕ} {next next' next'' : List ℕ} {a b : Bool} → TurnedBy vs m next us tk count a next' → a ≡ true → TurnedBy ws m next' us tk count b next''
      → TurnedBy (λ c. vs c ++ ws c) m next us tk count b next''
  turned_then {vs} {ws} u t w =
      record {
        long = w.long ∙ u.long;
        fits = λ e c h. fits_both (vs c) (ws c) (u.behind t c h) (u.fits t c h) (w.fits e c h);
        behind = λ e c h. omega (arith, w.behind e c h, u.behind t c h, length-append (vs c) (ws c));
        fails = λ e x. w.fails e (λ c h. fits_second (vs c) (ws c) (u.behind t c h) (x c h));
      }

  -- what fails, fails with more behind it
  turned_stop : {vs : ℕ → List ℕ} (ws : ℕ → List ℕ) {next next' : List ℕ} {a b : Bool} → TurnedBy vs m next us tk count a next' → a ≡ false → b ≡ false
      → TurnedBy (λ c. vs c ++ ws c) m next us tk count b next'
  turned_stop {vs} ws u t f =
      record {
        long = u.long;
        fits = λ e c h. absurd (false≢true (sym f ∙ e));
        behind = λ e c h. absurd (false≢true (sym f ∙ e));
        fails = λ e x. u.fails t (λ c h. fits_first (vs c) (ws c) (x c h));
      }

-- ---- one term

module _ {m : ℕ} {next us : List ℕ} {tk count d r : ℕ} (h : d < m) (wide : m ≤ length next) where
  pub term_there : get_or next d 0 < count → get_or us (tk + get_or next d 0) 0 ≡ r → TurnedBy (term_in d r) m next us tk count true (set next d (get_or next d 0 + 1))
  unfolding matches
  term_there low e =
      record {
        long = length-set next d (get_or next d 0 + 1);
        fits = λ _ c b. fit c (cases_Bool (eqb d c));
        behind = λ _ c b. behind c (cases_Bool (eqb d c));
        fails = λ f u. false≢true (sym f);
      }
    where
      fit : (c : ℕ) → (eqb d c ≡ true) ⊎ (eqb d c ≡ false) → TurnFits (term_in d r c) next us tk count c
      fit c (inl z) =
          let y : d ≡ c = eqb-true d c z in
          rw z (record {
            low = λ i b. let x : i ≡ 0 = omega arith in omega (arith, ap (λ (j : ℕ). get_or next j 0) y);
            there = and_from _ _ (eq-eqb (get_or us (tk + get_or next c 0) 0) r (rw (← y) e)) refl;
          })
      fit c (inr z) = rw z (record { low = λ i b. absurd (omega arith); there = refl })

      behind : (c : ℕ) → (eqb d c ≡ true) ⊎ (eqb d c ≡ false) → get_or (set next d (get_or next d 0 + 1)) c 0 ≡ get_or next c 0 + length (term_in d r c)
      behind c (inl z) = let y : d ≡ c = eqb-true d c z in rw (z, ← y) (get_or-set_same next d (get_or next d 0 + 1) 0 (omega arith))
      behind c (inr z) =
          rw z (get_or-set_other next d c (get_or next d 0 + 1) 0 (λ y. eqb-false d c z (sym y)) ∙ omega arith)

  pub term_bad : (get_or next d 0 < count → get_or us (tk + get_or next d 0) 0 ≡ r → ⊥) → TurnedBy (term_in d r) m next us tk count false next
  unfolding matches
  term_bad bad =
      record {
        long = refl;
        fits = λ f c b. absurd (false≢true f);
        behind = λ f c b. absurd (false≢true f);
        fails = λ _ u.
            let z = eq-eqb d d refl in
            let w : TurnFits (r ∷ []) next us tk count d = rw z at (u d h) in
            bad (omega (arith, w.low 0 (omega arith))) (eqb-true (get_or us (tk + get_or next d 0) 0) r (and_parts _ _ w.there).0);
      }

-- ---- the terms of a row

-- one column more
named_next : (cs : List ℕ) (k q r c : ℕ) → named_in cs k (q + 1) r c ≡ named_in cs k q r c ++ term_in (get_or cs (k + q) 0) r c
named_next cs k q r c =
    let z : q + 1 ≡ suc q = omega arith in
    ap (λ (j : ℕ). named_in cs k j r c) z
    ∙ ap (named_from c r) (tabulate_more (entry_at cs) q k (k + q) refl)
    ∙ named_append c r (places_in cs k q) (get_or cs (k + q) 0 ∷ [])
    ∙ ap (λ (zs : List ℕ). named_in cs k q r c ++ zs) (named_one c r (get_or cs (k + q) 0))

-- no column
named_zero : (cs : List ℕ) (k r c : ℕ) → named_in cs k 0 r c ≡ []
named_zero cs k r c = ap (named_from c r) (tabulate_zero (entry_at cs) k) ∙ named_nil c r

module _ (cs : List ℕ) (k r : ℕ) {m : ℕ} {us : List ℕ} {tk count : ℕ} {next : List ℕ} where
  pub row_start : TurnedBy (named_in cs k 0 r) m next us tk count true next
  row_start = turned_none (named_zero cs k r)

  module _ (q : ℕ) {next' next'' : List ℕ} {b : Bool} (u : TurnedBy (named_in cs k q r) m next us tk count true next') (w : TurnedBy (term_in (get_or cs (k + q) 0) r) m next' us tk count b next'') where
    pub row_turn : TurnedBy (named_in cs k (q + 1) r) m next us tk count b next''
    row_turn = turned_agree (λ c h. sym (named_next cs k q r c)) (turned_then u refl w)

    pub row_stop : {d : Bool} (n : ℕ) → q < n → b ≡ false → d ≡ false → TurnedBy (named_in cs k n r) m next us tk count d next''
    row_stop n h f e =
        turned_agree (λ c b. rest c) (turned_stop (λ c. named_from c r (places_in cs (k + (q + 1)) (n - (q + 1)))) row_turn f e)
      where
        rest : (c : ℕ) → named_in cs k (q + 1) r c ++ named_from c r (places_in cs (k + (q + 1)) (n - (q + 1))) ≡ named_in cs k n r c
        rest c =
            let z : q + 1 + (n - (q + 1)) ≡ n = omega arith in
            sym (named_append c r (places_in cs k (q + 1)) (places_in cs (k + (q + 1)) (n - (q + 1))))
            ∙ ap (named_from c r) (sym (tabulate_append (entry_at cs) (q + 1) (n - (q + 1)) k))
            ∙ ap (λ (j : ℕ). named_in cs k j r c) z

  pub row_end : (q n : ℕ) {next' : List ℕ} → TurnedBy (named_in cs k q r) m next us tk count true next' → q ≡ n → TurnedBy (named_in cs k n r) m next us tk count true next'
  row_end q n u e = turned_agree (λ c h. ap (λ (j : ℕ). named_in cs k j r c) e) u

-- ---- the rows

-- the first rows and the rest
rows_stop : {A : Type 0} (f : ℕ → List A) (r n : ℕ) → r ≤ n → rows f r ++ rows (λ i. f (r + i)) (n - r) ≡ rows f n
rows_stop f r n h = let z : r + (n - r) ≡ n = omega arith in sym (rows_append f r (n - r)) ∙ ap (rows f) z

module _ (ss : List ℕ) (s : ℕ) (cs : List ℕ) (k : ℕ) {m : ℕ} {us : List ℕ} {tk count : ℕ} {next : List ℕ} where
  pub rows_start : TurnedBy (λ c. rows (named_by ss s cs k c) 0) m next us tk count true next
  rows_start = turned_none (λ c. rows_zero (named_by ss s cs k c))

  module _ (r : ℕ) {next' next'' : List ℕ} {b : Bool} (u : TurnedBy (λ c. rows (named_by ss s cs k c) r) m next us tk count true next') (w : TurnedBy (λ c. named_by ss s cs k c r) m next' us tk count b next'') where
    pub rows_turn : TurnedBy (λ c. rows (named_by ss s cs k c) (r + 1)) m next us tk count b next''
    rows_turn =
        let z : r + 1 ≡ suc r = omega arith in
        turned_agree (λ c h. sym (rows_suc (named_by ss s cs k c) r) ∙ ap (rows (named_by ss s cs k c)) (sym z)) (turned_then u refl w)

    pub rows_bad : {d : Bool} (n : ℕ) → r < n → b ≡ false → d ≡ false → TurnedBy (λ c. rows (named_by ss s cs k c) n) m next us tk count d next''
    rows_bad n h f e =
        turned_agree (λ c b. rows_stop (named_by ss s cs k c) (r + 1) n (omega arith)) (turned_stop (λ c. rows (λ i. named_by ss s cs k c (r + 1 + i)) (n - (r + 1))) rows_turn f e)

  pub rows_end : (r n : ℕ) {next' : List ℕ} → TurnedBy (λ c. rows (named_by ss s cs k c) r) m next us tk count true next' → r ≡ n → TurnedBy (λ c. rows (named_by ss s cs k c) n) m next us tk count true next'
  rows_end r n u e = turned_agree (λ c h. ap (rows (named_by ss s cs k c)) e) u

-- ---- the whole: turned rows cols of m, against the walk

module _ {cols : ℕ → List ℕ} {m : ℕ} (t : Part) (tss : List ℕ) {us next next' : List ℕ} {count : ℕ} (at : (c : ℕ) → c < m → get_or next c 0 ≡ get_or tss (t.s + c) 0) (all : start_of cols m ≡ count)
    {a : Bool} (u : TurnedBy cols m next us t.k count a next') where
  -- rows that stand there fit
  fits_told : rows_match cols m t tss us ≡ true → (c : ℕ) → c < m → TurnFits (cols c) next us t.k count c
  fits_told e c h =
      let w = and_parts (matches tss t.s (starts_of cols m)) (matches us t.k (rows cols m)) e in
      let b : get_or next c 0 ≡ start_of cols c = at c h ∙ start_told cols m t.s tss w.0 c (omega arith) in
      record {
        low = λ i l. omega (arith, start_room cols m c h);
        there = rw b (row_told cols m t.k us w.1 c h);
      }

  pub walk_bad : {d : Bool} → a ≡ false → d ≡ false → d ≡ rows_match cols m t tss us
  walk_bad f e = e ∙ sym (false_from_ne_true (rows_match cols m t tss us) (λ x. u.fails f (fits_told x)))

  module _ (good : a ≡ true) where
    next_told : (c : ℕ) → c < m → get_or next' c 0 ≡ get_or tss (t.s + c) 0 + length (cols c)
    next_told c h = omega (arith, u.behind good c h, at c h)

    begins_told : rows_match cols m t tss us ≡ true → BeginsTo next' tss t.s m
    begins_told x =
        let w = and_parts (matches tss t.s (starts_of cols m)) (matches us t.k (rows cols m)) x in
        let y : t.s + 0 ≡ t.s = omega arith in
        record {
          first = (rw y at (start_told cols m t.s tss w.0 0 (omega arith))) ∙ start_zero cols;
          begins = λ i h.
              let z : t.s + i + 1 ≡ t.s + suc i = omega arith in
              let q : get_or tss (t.s + i + 1) 0 ≡ start_of cols (suc i) = rw z (start_told cols m t.s tss w.0 (suc i) h) in
              omega (arith, q, start_told cols m t.s tss w.0 i (omega arith), next_told i h, start_suc cols i);
        }

    module _ (v : BeginsTo next' tss t.s m) where
      start_is : (r : ℕ) → r ≤ m → get_or tss (t.s + r) 0 ≡ start_of cols r
      start_is zero h = let z : t.s + 0 ≡ t.s = omega arith in rw z (v.first ∙ sym (start_zero cols))
      start_is (suc r) h =
          let z : t.s + suc r ≡ t.s + r + 1 = omega arith in
          rw z (omega (arith, v.begins r h, next_told r h, start_is r (omega arith), start_suc cols r))

      going : (r : ℕ) → r ≤ m → Going cols m t tss us (start_of cols r) r
      going zero h = rw (start_zero cols) going_start
      going (suc r) h =
          let z : r + 1 ≡ suc r = omega arith in
          let b : get_or next r 0 ≡ start_of cols r = at r h ∙ start_is r (omega arith) in
          rw (start_suc cols r, ← z)
          (going_turn (going r (omega arith)) h refl (and_from _ _ (eq-eqb (get_or tss (t.s + r) 0) (start_of cols r) (start_is r (omega arith))) (rw b at (u.fits good r h).there)))

      walk_good : {d : Bool} → d ≡ true → d ≡ rows_match cols m t tss us
      walk_good e = going_end (going m (omega arith)) (omega arith) (e ∙ sym (eq-eqb (get_or tss (t.s + m) 0) (start_of cols m) (start_is m (omega arith))))

    pub walk_end : {d : Bool} → Begins next' tss t.s m d → d ≡ rows_match cols m t tss us
    walk_end {d} v = go (cases_Bool d)
      where
        go : (d ≡ true) ⊎ (d ≡ false) → d ≡ rows_match cols m t tss us
        go (inl e) = walk_good (v.good e) e
        go (inr e) = e ∙ sym (false_from_ne_true (rows_match cols m t tss us) (λ x. v.bad e (begins_told x)))

-- ---- forward rows that stand in lists

module _ {cols : ℕ → List ℕ} {n : ℕ} {o : Part} {ss cs : List ℕ} (room : PartRoom cols n o ss cs) (e : rows_match cols n o ss cs ≡ true) where
  parts : (matches ss o.s (starts_of cols n) ≡ true) × (matches cs o.k (rows cols n) ≡ true)
  parts = and_parts (matches ss o.s (starts_of cols n)) (matches cs o.k (rows cols n)) e

  here : (r : ℕ) → r ≤ n → get_or ss (o.s + r) 0 ≡ start_of cols r
  here r h = start_told cols n o.s ss parts.0 r h

  next_here : (r : ℕ) → r < n → get_or ss (o.s + r + 1) 0 ≡ start_of cols r + length (cols r)
  next_here r h = let z : o.s + r + 1 ≡ o.s + suc r = omega arith in rw z (here (suc r) h ∙ start_suc cols r)

  -- row r is read there
  row_is : (r : ℕ) → r < n → places_in cs (o.k + get_or ss (o.s + r) 0) (get_or ss (o.s + r + 1) 0 - get_or ss (o.s + r) 0) ≡ cols r
  row_is r h =
      let a : get_or ss (o.s + r + 1) 0 - get_or ss (o.s + r) 0 ≡ length (cols r) = omega (arith, next_here r h, here r (omega arith)) in
      rw (a, here r (omega arith)) (matches_places cs (o.k + start_of cols r) (cols r) (row_told cols n o.k cs parts.1 r h))

  pub given_is : (c : ℕ) → rows (named_by ss o.s cs o.k c) n ≡ turned_columns cols n c
  given_is c = rows_agree (named_by ss o.s cs o.k c) (named_part cols c) n (λ r h. ap (named_from c r) (row_is r h)) ∙ sym (turned_columns_is cols n c)

  pub walkable : {m tk count : ℕ} {us : List ℕ} → ((r c : ℕ) → r < n → In c (cols r) → c < m) → tk + count ≤ length us → Walkable ss o.s cs o.k n m us tk count
  walkable below fit =
      record {
        starts_room = room.starts_room;
        rise = λ r h. omega (arith, next_here r h, here r (omega arith));
        most = λ r h. omega (arith, next_here r h, start_room cols n r h, room.columns_room);
        low = λ r q h a b.
            let j = q - start_of cols r in
            let z : o.k + q ≡ o.k + start_of cols r + j = omega (arith, here r (omega arith)) in
            let l : j < length (cols r) = omega (arith, next_here r h, here r (omega arith)) in
            rw (z, matches_told cs (o.k + start_of cols r) (cols r) (row_told cols n o.k cs parts.1 r h) j (o.k + start_of cols r + j) refl l)
            (below r (get_or (cols r) j 0) h (in_at (cols r) j l));
        room = fit;
      }

-- ---- as the code asks

-- a test that held
pub row_true : {vs : ℕ → List ℕ} {m : ℕ} {next us : List ℕ} {tk count : ℕ} {b : Bool} {next' : List ℕ} → TurnedBy vs m next us tk count b next' → b ≡ true → TurnedBy vs m next us tk count true next'
row_true {vs} {m} {next} {us} {tk} {count} {b} {next'} u e = subst (λ (d : Bool). TurnedBy vs m next us tk count d next') e u

-- row r of rows that can be walked
pub walk_row : {ss : List ℕ} {s : ℕ} {cs : List ℕ} {k n m : ℕ} {us : List ℕ} {tk count : ℕ} → Walkable ss s cs k n m us tk count → {r w : ℕ} → r < n → m ≤ w
    → ((k + get_or ss (s + r) 0 + (get_or ss (s + r + 1) 0 - get_or ss (s + r) 0) ≤ length cs) × (m ≤ w))
    × (((q : ℕ) → q < get_or ss (s + r + 1) 0 - get_or ss (s + r) 0 → get_or cs (k + get_or ss (s + r) 0 + q) 0 < m) × (tk + count ≤ length us))
walk_row {ss} {s} {cs} {k} u {r} h b = (
  (omega (arith, u.rise r h, u.most r h), b),
  (
    λ q c. let z : k + get_or ss (s + r) 0 + q ≡ k + (get_or ss (s + r) 0 + q) = omega arith in rw z (u.low r (get_or ss (s + r) 0 + q) h (omega arith) (omega arith)),
    u.room,
  ),
)
