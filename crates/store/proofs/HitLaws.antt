-- The flags of a level from those of the level before, and where its rows stand. Assumes nothing.
use Prim.Native.Nat.{ℕ, zero, suc, ◌+◌, ◌≤◌, ◌<◌, ◌^◌}
use mathlib.Core.Path.{◌≡◌, refl, sym, ap, subst, ◌∙◌}
use mathlib.Core.Logic.{⊎_elim}
use mathlib.Core.Bool.{Bool, true, false, ◌||◌, cond}
use mathlib.Core.List.{List, []}
use native.Mathlib.Omega.{arith}
use borrow.Author.Tests.{eq-eqb, ne_eqb}
use lib.Dec.{eqb, ltb}
use lib.ListN.{length, get_or, set, replicate, length-set, length-replicate, get_or-replicate}
use lib.Seq.{get_or-set_same, get_or-set_other}
use Rattle.std.proofs.lemmas.Bool.{cases_eq}
use Rattle.numbers.specs.declared.terms.Part.{Part}
use Rattle.numbers.specs.Lists.{In}
use Rattle.numbers.proofs.SumLaws.{sum_to_zero, sum_to_suc}
use Rattle.lattice.specs.Grid.{Limits, unknowns_of}
use Rattle.lattice.specs.Lattice.{FullLattice}
use Rattle.weights.specs.CoarseEps.{eps_reads}
use Rattle.weights.specs.TwoLevels.{two_at}
use Rattle.operators.specs.Averaged.{averaged_reads}
use Rattle.operators.specs.LevelLists.{edges_on}
use Rattle.operators.specs.Levels.{lattice_at}
use Rattle.operators.specs.Stencil.{stencil_reads}
use Rattle.operators.proofs.Equations.{lattice_at_zero}
use Rattle.operators.proofs.LevelListLaws.{first_edges}
use Rattle.operators.proofs.RangeLaws.{edges_few}
use Rattle.store.specs.FillSteps.{only_count}
use Rattle.store.specs.Layout.{forward_cols, turned_cols, operator_cols, forward_count, turned_count, operator_count, stored_count, first_stored, next_edges, forward_off, turned_off, operator_off, starts_off, stored_starts}
use Rattle.store.specs.Phases.{forward_part, turned_part, operator_part}
use Rattle.store.specs.PhaseSteps.{behind_of}
use Rattle.store.specs.Reach.{any, eps_hit, averaged_hit, forward_hit, turned_hit, galerkin_hit, rediscretized_hit, operator_hit}
use Rattle.store.specs.Renewed.{Fixed, Shaped, five}
use Rattle.store.specs.ReachSteps.{Flags, Raised, RowsHeld, RowsThere, RaisedBy, HitsLong, TransferHits, FirstHits, FirstRaised, TransferRaised, OperatorRaised, LevelRaised, TransferHeld, OperatorHeld, Ends, LevelEnds, parts_at}
use Rattle.store.specs.declared.Choice.{Choice}
use Rattle.store.specs.declared.Choice.TheVariants.{Galerkin, Rediscretized}
use Rattle.store.specs.declared.change.Hits.{Hits}
use Rattle.store.specs.declared.change.LevelParts.{LevelParts}
use Rattle.store.proofs.EndLaws.{edges_next}
use Rattle.numbers.proofs.PartLaws.{part_room}
use Rattle.store.proofs.PatternLaws.{leads, galerkin_hit_lem, forward_hit_lem}
use Rattle.store.proofs.RaisedLaws.{only_most, raise_set, raised_as, flags_raised}
use Rattle.store.proofs.RangeLaws.{ranges}
use Rattle.store.proofs.RankLaws.{first_most}
use Rattle.store.proofs.SmallLaws.{forward_small, turned_small, operator_small}
use Rattle.store.proofs.SizeLaws.{stored_later}
use Rattle.store.proofs.StepLaws.{starts_later, terms_later}

-- ---- lists with no flag

abbrev pub none : List Bool
none = replicate 12288 false

pub none_long : length none ≡ 12288
none_long = length-replicate 12288 false

none_flags : (n : ℕ) → n ≤ 12288 → Flags n (λ r. false) none
none_flags n h = record { long = omega (arith, none_long); each_is = λ r b. get_or-replicate 12288 r false false (omega arith) }

pub level_room : (l : FullLattice) (limits : Limits l.grid) (L : ℕ) → edges_on l L ≤ length none
level_room l limits L = omega (arith, edges_few l limits L, none_long)

-- ---- level 0

pub first_room : (l : FullLattice) (limits : Limits l.grid) → unknowns_of l.grid ≤ length none
first_room l limits = omega (arith, first_edges l, level_room l limits 0)

pub edge_room : (l : FullLattice) (limits : Limits l.grid) (e : ℕ) → e < edges_on l 0 → e < length none
edge_room l limits e h = omega (arith, level_room l limits 0)

single_edge : (ys : List Bool) (e r : ℕ) → e < length ys → get_or ys r false ≡ false → get_or (set ys e true) r false ≡ eqb r e
single_edge ys e r h z =
    ⊎_elim
    (λ j. rw j (get_or-set_same ys e true false h ∙ sym (eq-eqb e e refl)))
    (λ j. get_or-set_other ys e r true false j ∙ z ∙ sym (ne_eqb r e j))
    (cases_eq r e)

-- xs has the flag of edge e alone
module _ (l : FullLattice) (limits : Limits l.grid) (e : ℕ) (base : e < edges_on l 0) {xs : List Bool} (at : xs ≡ set none e (get_or none e false || true)) where
  set_edge : xs ≡ set none e true
  set_edge = at ∙ sym (raise_set none e true refl)

  edge_long : length xs ≡ 12288
  edge_long = ap length set_edge ∙ length-set none e true ∙ none_long

  only_edge : (r : ℕ) → r < edges_on l 0 → get_or xs r false ≡ eqb r e
  only_edge r h =
      ap (λ (us : List Bool). get_or us r false) set_edge
      ∙ single_edge none e r (edge_room l limits e base) (get_or-replicate 12288 r false false (omega (arith, edges_few l limits 0)))

  eps_first : Flags (edges_on l 0) (eps_hit l e 0) xs
  unfolding eps_hit
  eps_first = record { long = omega (arith, edges_few l limits 0, edge_long); each_is = only_edge }

  averaged_first : Flags (edges_on l 0) (averaged_hit l e 0) xs
  unfolding averaged_hit
  averaged_first = record { long = omega (arith, edges_few l limits 0, edge_long); each_is = only_edge }

  low : (r c : ℕ) → r < edges_on l 0 → In c (stencil_reads l r) → c < edges_on l 0
  low r c h i = (ranges l limits).first_low r c h i

  module _ {ys : List Bool} (w : Raised (edges_on l 0) xs (stencil_reads l) none ys) where
    galerkin_first : Flags (edges_on l 0) (galerkin_hit l e 0) ys
    unfolding galerkin_hit
    galerkin_first = flags_raised (edges_on l 0) (eps_hit l e 0) (edges_on l 0) (λ r. false) eps_first (none_flags (edges_on l 0) (edges_few l limits 0)) w low

    operator_first : (ch : Choice) → Flags (edges_on l 0) (operator_hit l e ch 0) ys
    unfolding rediscretized_hit
    operator_first Galerkin = galerkin_first
    operator_first Rediscretized =
        subst (λ (k : FullLattice). Flags (edges_on l 0) (λ r. any (averaged_hit l e 0) (stencil_reads k r)) ys) (sym (lattice_at_zero l))
        (flags_raised (edges_on l 0) (averaged_hit l e 0) (edges_on l 0) (λ r. false) averaged_first (none_flags (edges_on l 0) (edges_few l limits 0)) w low)

  pub first_hits : (ch : Choice) (m : ℕ) {ys : List Bool} → FirstRaised l ch m xs none ys
      → FirstHits l e ch m (record { eps = xs; averaged = xs; forward = none; turned = none; operator = ys })
  first_hits ch m w =
      record {
        long = record {
          eps_long = edge_long;
          averaged_long = edge_long;
          forward_long = none_long;
          turned_long = none_long;
          operator_long = w.same_long ∙ none_long;
        };
        hits = record {
          eps_are = eps_first;
          averaged_are = λ z. averaged_first;
          galerkin_are = λ z. galerkin_first (w.raised (ap (λ (c : Choice). only_count c m) z));
        };
        sole_are = λ z. operator_first (w.raised (omega (arith, only_most ch m))) ch;
      }

-- the rows of level 0's operator are looked at, or not
pub first_left : (l : FullLattice) (ch : Choice) (m : ℕ) {k : ℕ} {flags xs : List Bool} → k ≡ only_count ch m → 0 < k → FirstRaised l ch m flags xs xs
first_left l ch m e h = record { same_long = refl; raised = λ z. absurd (omega arith) }

pub first_raised : (l : FullLattice) (ch : Choice) (m : ℕ) {flags xs ys : List Bool} → Raised (unknowns_of l.grid) flags (stencil_reads l) xs ys → FirstRaised l ch m flags xs ys
first_raised l ch m w = record { same_long = w.same_long; raised = λ z. raised_as w (first_edges l) (λ r h. refl) }

-- ---- rows in lists, by the code's count of them

pub rows_there : {cols : ℕ → List ℕ} {n k : ℕ} {o : Part} {ss cs : List ℕ} → n ≡ k → RowsHeld cols k o ss cs → RowsThere n o ss cs
rows_there {cols} {n} {k} {o} {ss} {cs} e w = record { cols = cols; held = subst (λ (j : ℕ). RowsHeld cols j o ss cs) (sym e) w }

pub raised_by : {cols : ℕ → List ℕ} {n k : ℕ} {o : Part} {ss cs : List ℕ} {flags xs ys : List Bool} → n ≡ k → RowsHeld cols k o ss cs → RaisedBy n o ss cs flags xs ys → Raised k flags cols xs ys
raised_by {cols} {n} {k} {o} {ss} {cs} {flags} {xs} {ys} e w u =
    (subst (λ (j : ℕ). RaisedBy j o ss cs flags xs ys) e u).raised cols w.rows_at

pub rows_next : (l : FullLattice) (L : ℕ) {cols : ℕ → List ℕ} {k : ℕ} {o : Part} {ss cs : List ℕ} → k ≡ edges_on l (L + 1) → RowsHeld cols (edges_on l (suc L)) o ss cs → RowsThere k o ss cs
rows_next l L e w = rows_there (edges_next l L e) w

-- ---- a transfer

module _ (l : FullLattice) (limits : Limits l.grid) (L : ℕ) {a : LevelParts} {ss cs ts us : List ℕ} (w : TransferHeld l L a ss cs ts us) where
  pub forward_there : {n : ℕ} → n ≡ edges_on l L → RowsThere n a.forward ss cs
  forward_there e = rows_there e w.forward_held

  pub turned_there : {k : ℕ} → k ≡ edges_on l (L + 1) → RowsThere k a.turned ts us
  turned_there e = rows_next l L e w.turned_held

  pub forward_few : {n : ℕ} → n ≡ edges_on l L → n ≤ length none
  forward_few e = omega (arith, level_room l limits L)

  pub turned_few : {k : ℕ} → k ≡ edges_on l (L + 1) → k ≤ length none
  turned_few e = omega (arith, level_room l limits (suc L), edges_next l L e)

  module _ (h : Hits) {n k : ℕ} (en : n ≡ edges_on l L) (ek : k ≡ edges_on l (L + 1)) {next forward turned : List Bool}
      (coarse : Raised (edges_on l (suc L)) h.eps (eps_reads (two_at l L)) none next) (columns : RaisedBy n a.forward ss cs next none forward)
      (rows : RaisedBy k a.turned ts us forward none turned) where
    named : Raised (edges_on l L) next (forward_cols l L) none forward
    named = raised_by en w.forward_held columns

    turning : Raised (edges_on l (suc L)) forward (turned_cols l L) none turned
    turning = raised_by (edges_next l L ek) w.turned_held rows

    module _ (e : ℕ) (f : Flags (edges_on l L) (eps_hit l e L) h.eps) where
      coarse_hits : Flags (edges_on l (suc L)) (eps_hit l e (suc L)) next
      unfolding eps_hit
      coarse_hits =
          flags_raised (edges_on l L) (eps_hit l e L) (edges_on l (suc L)) (λ r. false) f (none_flags (edges_on l (suc L)) (edges_few l limits (suc L))) coarse
          (λ r c b i. (ranges l limits).eps_low L r c b i)

      forward_hits : Flags (edges_on l L) (forward_hit l e L) forward
      forward_hits =
          let u : Flags (edges_on l L) (λ r. any (eps_hit l e (suc L)) (forward_cols l L r)) forward =
          flags_raised (edges_on l (suc L)) (eps_hit l e (suc L)) (edges_on l L) (λ r. false) coarse_hits (none_flags (edges_on l L) (edges_few l limits L)) named
          (λ r c b i. (ranges l limits).forward_low L r c b i) in
          record { long = u.long; each_is = λ r b. u.each_is r b ∙ sym (forward_hit_lem l limits e L r b) }

      turned_hits : Flags (edges_on l (suc L)) (turned_hit l e L) turned
      unfolding turned_hit
      turned_hits =
          flags_raised (edges_on l L) (forward_hit l e L) (edges_on l (suc L)) (λ r. false) forward_hits (none_flags (edges_on l (suc L)) (edges_few l limits (suc L))) turning
          (λ r c b i. (ranges l limits).turned_low L r c i)

    pub transfer_raised : HitsLong h → TransferRaised l L h (record { eps = next; averaged = h.averaged; forward = forward; turned = turned; operator = h.operator })
    transfer_raised long =
        record {
          long = record {
            eps_long = coarse.same_long ∙ none_long;
            averaged_long = long.averaged_long;
            forward_long = named.same_long ∙ none_long;
            turned_long = turning.same_long ∙ none_long;
            operator_long = long.operator_long;
          };
          averaged_same = refl;
          operator_same = refl;
          raised = λ e f. record { coarse_are = coarse_hits e f; forward_are = forward_hits e f; turned_are = turned_hits e f };
        }

-- ---- Galerkin's operator

not_galerkin : Galerkin ≡ Rediscretized → ⊥
not_galerkin z = let q : ◌≡◌ {A = ℕ} (only_count Galerkin 1) (only_count Rediscretized 1) = ap (λ (c : Choice). only_count c 1) z in omega arith

not_rediscretized : Rediscretized ≡ Galerkin → ⊥
not_rediscretized z = not_galerkin (sym z)

-- level 0's columns are not stored
pub leads_first : (l : FullLattice) (L : ℕ) {n : ℕ} {flags xs ys : List Bool} → L ≡ 0 → n ≡ edges_on l L → Raised (unknowns_of l.grid) flags (operator_cols l Galerkin 0) xs ys
    → Raised n flags (operator_cols l Galerkin L) xs ys
leads_first l L {n} z e w =
    raised_as w (first_edges l ∙ ap (edges_on l) (sym z) ∙ sym e) (λ r h. ap (λ (K : ℕ). operator_cols l Galerkin K r) (sym z))

pub leads_room : (l : FullLattice) (L : ℕ) {n : ℕ} (xs : List Bool) → L ≡ 0 → n ≡ edges_on l L → n ≤ length xs → unknowns_of l.grid ≤ length xs
leads_room l L xs z e h = omega (arith, first_edges l ∙ ap (edges_on l) (sym z))

pub leads_stored : (l : FullLattice) (L : ℕ) {n : ℕ} {o : Part} {os oc : List ℕ} {flags xs ys : List Bool} → (L ≡ 0 → ⊥) → n ≡ edges_on l L → OperatorHeld l Galerkin L o os oc
    → RaisedBy n o os oc flags xs ys → Raised n flags (operator_cols l Galerkin L) xs ys
leads_stored l L z e w u = raised_as (raised_by e (w.held z) u) (sym e) (λ r h. refl)

module _ (l : FullLattice) (limits : Limits l.grid) (L : ℕ) (h : Hits) (long : HitsLong h) where
  pub level_few : {n : ℕ} → n ≡ edges_on l L → n ≤ length h.operator
  level_few e = omega (arith, edges_few l limits L, long.operator_long)

  pub next_few : {k : ℕ} → k ≡ edges_on l (L + 1) → k ≤ length none
  next_few e = omega (arith, edges_few l limits (suc L), edges_next l L e, none_long)

  module _ {o : Part} {ts us : List ℕ} (w : RowsHeld (turned_cols l L) (edges_on l (suc L)) o ts us) {n k : ℕ} (en : n ≡ edges_on l L) (ek : k ≡ edges_on l (L + 1))
      {led operator : List Bool} (leading : Raised n h.forward (operator_cols l Galerkin L) h.operator led) (rows : RaisedBy k o ts us led none operator) where
    turning_op : Raised (edges_on l (suc L)) led (turned_cols l L) none operator
    turning_op = raised_by (edges_next l L ek) w rows

    module _ (e : ℕ) (t : TransferHits l e L h) (g : Flags (edges_on l L) (galerkin_hit l e L) h.operator) where
      led_hits : Flags (edges_on l L) (leads l e L) led
      unfolding leads
      led_hits =
          flags_raised (edges_on l L) (forward_hit l e L) (edges_on l L) (galerkin_hit l e L) t.forward_are g (raised_as leading en (λ r b. refl))
          (λ r c b i. (ranges l limits).operator_low L r c b i)

      galerkin_hits : Flags (edges_on l (suc L)) (galerkin_hit l e (suc L)) operator
      galerkin_hits =
          let u : Flags (edges_on l (suc L)) (λ c. any (leads l e L) (turned_cols l L c)) operator =
          flags_raised (edges_on l L) (leads l e L) (edges_on l (suc L)) (λ r. false) led_hits (none_flags (edges_on l (suc L)) (edges_few l limits (suc L))) turning_op
          (λ r c b i. (ranges l limits).turned_low L r c i) in
          record { long = u.long; each_is = λ c b. u.each_is c b ∙ sym (galerkin_hit_lem l e L c) }

    pub galerkin_raised : OperatorRaised l Galerkin L h (record { eps = h.eps; averaged = h.averaged; forward = h.forward; turned = h.turned; operator = operator })
    galerkin_raised =
        record {
          long = record {
            eps_long = long.eps_long;
            averaged_long = long.averaged_long;
            forward_long = long.forward_long;
            turned_long = long.turned_long;
            operator_long = turning_op.same_long ∙ none_long;
          };
          raised = λ e t a g.
              record {
                own = record { eps_are = t.coarse_are; averaged_are = λ z. absurd (not_galerkin z); galerkin_are = λ z. galerkin_hits e t (g refl) };
                transfer = record { coarse_are = t.coarse_are; forward_are = t.forward_are; turned_are = t.turned_are };
                operator_are = galerkin_hits e t (g refl);
              };
        }

  -- ---- the rediscretized operator

  pub averaged_few : (edges_on l L ≤ length h.averaged) × (edges_on l (suc L) ≤ length none)
  averaged_few = (omega (arith, edges_few l limits L, long.averaged_long), omega (arith, edges_few l limits (suc L), none_long))

  module _ {averaged operator : List Bool} (means : Raised (edges_on l (suc L)) h.averaged (averaged_reads (two_at l L)) none averaged)
      (rows : Raised (edges_on l (suc L)) averaged (stencil_reads (lattice_at l (suc L))) none operator) where
    module _ (e : ℕ) (a : Flags (edges_on l L) (averaged_hit l e L) h.averaged) where
      averaged_hits : Flags (edges_on l (suc L)) (averaged_hit l e (suc L)) averaged
      unfolding averaged_hit
      averaged_hits =
          flags_raised (edges_on l L) (averaged_hit l e L) (edges_on l (suc L)) (λ r. false) a (none_flags (edges_on l (suc L)) (edges_few l limits (suc L))) means
          (λ r c b i. (ranges l limits).averaged_low L r c b i)

      rediscretized_hits : Flags (edges_on l (suc L)) (rediscretized_hit l e (suc L)) operator
      unfolding rediscretized_hit
      rediscretized_hits =
          flags_raised (edges_on l (suc L)) (averaged_hit l e (suc L)) (edges_on l (suc L)) (λ r. false) averaged_hits (none_flags (edges_on l (suc L)) (edges_few l limits (suc L))) rows
          (λ r c b i. (ranges l limits).stencil_low (suc L) r c b i)

    pub rediscretized_raised : OperatorRaised l Rediscretized L h (record { eps = h.eps; averaged = averaged; forward = h.forward; turned = h.turned; operator = operator })
    rediscretized_raised =
        record {
          long = record {
            eps_long = long.eps_long;
            averaged_long = means.same_long ∙ none_long;
            forward_long = long.forward_long;
            turned_long = long.turned_long;
            operator_long = rows.same_long ∙ none_long;
          };
          raised = λ e t a g.
              record {
                own = record { eps_are = t.coarse_are; averaged_are = λ z. averaged_hits e (a refl); galerkin_are = λ z. absurd (not_rediscretized z) };
                transfer = record { coarse_are = t.coarse_are; forward_are = t.forward_are; turned_are = t.turned_are };
                operator_are = rediscretized_hits e (a refl);
              };
        }

-- the operator's rows, once the choice is told
pub held_as : {l : FullLattice} {ch to : Choice} {L : ℕ} {o : Part} {os oc : List ℕ} → ch ≡ to → OperatorHeld l ch L o os oc → OperatorHeld l to L o os oc
held_as {l} {ch} {to} {L} {o} {os} {oc} e w = subst (λ (c : Choice). OperatorHeld l c L o os oc) e w

-- ---- the whole level

pub level_raised : {l : FullLattice} {ch : Choice} {L : ℕ} {h t r : Hits} → TransferRaised l L h t → OperatorRaised l ch L t r → LevelRaised l ch L h r
level_raised {l} {ch} {L} {h} {t} {r} u v =
    record {
      long = v.long;
      raised = λ e w.
          v.raised e (u.raised e w.eps_are)
          (λ z. subst (Flags (edges_on l L) (averaged_hit l e L)) (sym u.averaged_same) (w.averaged_are z))
          (λ z. subst (Flags (edges_on l L) (galerkin_hit l e L)) (sym u.operator_same) (w.galerkin_are z));
    }

-- ---- where the rows stand

module _ (l : FullLattice) (ch : Choice) (m : ℕ) (x : Fixed) (shaped : Shaped l ch m x) (L : ℕ) (h : L < m) where
  abbrev parts : LevelParts
  parts = parts_at l ch m L

  pub transfer_held : TransferHeld l L parts x.fs x.fc x.ts x.tc
  transfer_held =
      let s = shaped.structured (five [] [] [] [] []) in
      record {
        forward_held = record {
          rows_at = s.forward_are L h;
          starts_room = omega (arith, shaped.room.fs_room, part_room (λ i. edges_on l i + 1) L m h);
          columns_room = omega (arith, shaped.room.fc_room, part_room (forward_count l) L m h);
        };
        turned_held = record {
          rows_at = s.turned_are L h;
          starts_room = omega (arith, shaped.room.ts_room, part_room (λ i. next_edges l i + 1) L m h);
          columns_room = omega (arith, shaped.room.tc_room, part_room (turned_count l) L m h);
        };
      }

  pub operator_held : OperatorHeld l ch L parts.operator x.os x.oc
  operator_held = record { held = go L h }
    where
      go : (K : ℕ) → K < m → (K ≡ 0 → ⊥) → RowsHeld (operator_cols l ch K) (edges_on l K) (operator_part l ch m K) x.os x.oc
      go zero b z = absurd (z refl)
      go (suc K) b z =
          let s = shaped.structured (five [] [] [] [] []) in
          let later = stored_later m K in
          let starts : stored_starts l m (suc K) + (edges_on l (suc K) + 1) ≤ stored_starts l m (suc m) =
          rw later at (part_room (λ i. cond (ltb i (first_stored m)) 0 (edges_on l i + 1)) (suc K) (suc m) (omega arith)) in
          let terms : operator_off l ch m (suc K) + operator_count l ch (suc K) ≤ operator_off l ch m (suc m) =
          rw later at (part_room (stored_count l ch m) (suc K) (suc m) (omega arith)) in
          record {
            rows_at = s.operator_are (suc K) (first_most m K (omega arith)) (omega arith);
            starts_room = omega (arith, shaped.room.os_room, starts);
            columns_room = omega (arith, shaped.room.oc_room, terms);
          }

  pub level_ends : LevelEnds l ch L parts x.fs x.ts x.os
  level_ends =
      let t = transfer_held in
      record {
        forward_ends = record { room = t.forward_held.starts_room; last_is = t.forward_held.rows_at.starts_are (edges_on l L) (omega arith) };
        turned_ends = record { room = t.turned_held.starts_room; last_is = t.turned_held.rows_at.starts_are (edges_on l (suc L)) (omega arith) };
        operator_ends = λ z. let o = operator_held.held z in record { room = o.starts_room; last_is = o.rows_at.starts_are (edges_on l L) (omega arith) };
      }

  -- by the code's parts
  module _ {a : LevelParts} (at : a ≡ parts_at l ch m L) where
    pub transfer_here : TransferHeld l L a x.fs x.fc x.ts x.tc
    transfer_here = rw at transfer_held

    pub operator_here : OperatorHeld l ch L a.operator x.os x.oc
    operator_here = rw at operator_held

    pub ends_here : LevelEnds l ch L a x.fs x.ts x.os
    ends_here = rw at level_ends

-- the first level's parts

pub parts_start : (l : FullLattice) (ch : Choice) (m : ℕ)
    → ◌≡◌ {A = LevelParts} (record { forward = record { s = 0; k = 0 }; turned = record { s = 0; k = 0 }; operator = record { s = 0; k = 0 } }) (parts_at l ch m 0)
parts_start l ch m =
    let fs = sym (sum_to_zero (λ i. edges_on l i + 1)) in
    let fk = sym (sum_to_zero (forward_count l)) in
    let ts = sym (sum_to_zero (λ i. next_edges l i + 1)) in
    let tk = sym (sum_to_zero (turned_count l)) in
    let os = sym (sum_to_zero (λ i. cond (ltb i (first_stored m)) 0 (edges_on l i + 1))) in
    let ok = sym (sum_to_zero (stored_count l ch m)) in
    λ i. record { forward = record { s = fs i; k = fk i }; turned = record { s = ts i; k = tk i }; operator = record { s = os i; k = ok i } }

-- the parts of the next level

pub part_stays : (L : ℕ) (o p : Part) → L ≡ 0 → o ≡ cond (eqb L 0) o p
part_stays L o p z = ap (λ (b : Bool). cond b o p) (sym (eq-eqb L 0 z))

pub part_moves : (L : ℕ) (o p : Part) {q : Part} → (L ≡ 0 → ⊥) → q ≡ p → q ≡ cond (eqb L 0) o p
part_moves L o p z e = e ∙ ap (λ (b : Bool). cond b o p) (sym (ne_eqb L 0 z))

pub ends_asked : {o : Part} {n k count : ℕ} {ss : List ℕ} → Ends o k count ss → n ≡ k → o.k + count ≤ 2 ^ 40 → (o.s + n < length ss) × (o.k + get_or ss (o.s + n) 0 ≤ 2 ^ 40)
ends_asked {o} {n} {k} {count} {ss} w e h =
    let last : get_or ss (o.s + n) 0 ≡ count = rw e w.last_is in
    (omega (arith, w.room), omega (arith, last))

module _ (l : FullLattice) (limits : Limits l.grid) (ch : Choice) (m : ℕ) (deep : m ≤ 11) (L : ℕ) (h : L < m) {a : LevelParts} (at : a ≡ parts_at l ch m L)
    {ss ts os : List ℕ} (w : LevelEnds l ch L a ss ts os) where
  pub forward_asked : {n : ℕ} → n ≡ edges_on l L → (a.forward.s + n < length ss) × (a.forward.k + get_or ss (a.forward.s + n) 0 ≤ 2 ^ 40)
  forward_asked e =
      let s = forward_small l limits m deep L h in
      ends_asked w.forward_ends e (rw at (omega (arith, s.low, s.all_few)))

  pub turned_asked : {k : ℕ} → k ≡ edges_on l (L + 1) → (a.turned.s + k < length ts) × (a.turned.k + get_or ts (a.turned.s + k) 0 ≤ 2 ^ 40)
  turned_asked e =
      let s = turned_small l limits m deep L h in
      ends_asked w.turned_ends (edges_next l L e) (rw at (omega (arith, s.low, s.all_few)))

  pub operator_asked : {n : ℕ} → n ≡ edges_on l L → (L ≡ 0 → ⊥) → (a.operator.s + n < length os) × (a.operator.k + get_or os (a.operator.s + n) 0 ≤ 2 ^ 40)
  operator_asked e z =
      let s = operator_small l limits m deep ch L (omega arith) in
      ends_asked (w.operator_ends z) e (rw at (omega (arith, s.low, s.all_few)))

  -- the parts behind these
  module _ {n k : ℕ} (en : n ≡ edges_on l L) (ek : k ≡ edges_on l (L + 1)) where
    forward_next : behind_of a.forward n ss ≡ forward_part l (suc L)
    forward_next =
        let last : get_or ss (a.forward.s + n) 0 ≡ forward_count l L = rw en w.forward_ends.last_is in
        let s : a.forward.s + n + 1 ≡ starts_off (edges_on l) (suc L) = omega (arith, ap (λ (b : LevelParts). b.forward.s) at, sum_to_suc (λ i. edges_on l i + 1) L) in
        let t : a.forward.k + get_or ss (a.forward.s + n) 0 ≡ forward_off l (suc L) = omega (arith, last, ap (λ (b : LevelParts). b.forward.k) at, sum_to_suc (forward_count l) L) in
        λ i. record { s = s i; k = t i }

    turned_next : behind_of a.turned k ts ≡ turned_part l (suc L)
    turned_next =
        let e = edges_next l L ek in
        let last : get_or ts (a.turned.s + k) 0 ≡ turned_count l L = rw e w.turned_ends.last_is in
        let s : a.turned.s + k + 1 ≡ starts_off (next_edges l) (suc L) = omega (arith, ap (λ (b : LevelParts). b.turned.s) at, sum_to_suc (λ i. next_edges l i + 1) L) in
        let t : a.turned.k + get_or ts (a.turned.s + k) 0 ≡ turned_off l (suc L) = omega (arith, last, ap (λ (b : LevelParts). b.turned.k) at, sum_to_suc (turned_count l) L) in
        λ i. record { s = s i; k = t i }

    operator_next : {o : Part} → o ≡ cond (eqb L 0) a.operator (behind_of a.operator n os) → o ≡ operator_part l ch m (suc L)
    operator_next {o} d = ⊎_elim first later (cases_eq L 0)
      where
        first : L ≡ 0 → o ≡ operator_part l ch m (suc L)
        first z =
            let f : o ≡ a.operator = d ∙ ap (λ (b : Bool). cond b a.operator (behind_of a.operator n os)) (eq-eqb L 0 z) in
            f ∙ ap (λ (b : LevelParts). b.operator) at ∙ none_before m h z
          where
            none_before : (M : ℕ) → L < M → L ≡ 0 → operator_part l ch M L ≡ operator_part l ch M (suc L)
            none_before zero b z = absurd (omega arith)
            none_before (suc M) b z =
                let s : stored_starts l (suc M) L ≡ stored_starts l (suc M) (suc L) =
                rw z (sym (sum_to_suc (λ i. cond (ltb i 1) 0 (edges_on l i + 1)) 0 ∙ (omega arith))) in
                let t : operator_off l ch (suc M) L ≡ operator_off l ch (suc M) (suc L) = rw z (sym (sum_to_suc (stored_count l ch (suc M)) 0 ∙ (omega arith))) in
                λ i. record { s = s i; k = t i }

        later : (L ≡ 0 → ⊥) → o ≡ operator_part l ch m (suc L)
        later z =
            let f : o ≡ behind_of a.operator n os = d ∙ ap (λ (b : Bool). cond b a.operator (behind_of a.operator n os)) (ne_eqb L 0 z) in
            let last : get_or os (a.operator.s + n) 0 ≡ operator_count l ch L = rw en (w.operator_ends z).last_is in
            let s : a.operator.s + n + 1 ≡ stored_starts l m (suc L) = omega (arith, ap (λ (b : LevelParts). b.operator.s) at, starts_behind L z) in
            let t : a.operator.k + get_or os (a.operator.s + n) 0 ≡ operator_off l ch m (suc L) = omega (arith, last, ap (λ (b : LevelParts). b.operator.k) at, terms_behind L z) in
            f ∙ (λ i. record { s = s i; k = t i })
          where
            starts_behind : (K : ℕ) → (K ≡ 0 → ⊥) → stored_starts l m (suc K) ≡ stored_starts l m K + (edges_on l K + 1)
            starts_behind zero z = absurd (z refl)
            starts_behind (suc K) z = starts_later l ch m K

            terms_behind : (K : ℕ) → (K ≡ 0 → ⊥) → operator_off l ch m (suc K) ≡ operator_off l ch m K + operator_count l ch K
            terms_behind zero z = absurd (z refl)
            terms_behind (suc K) z = terms_later l ch m K

    pub parts_next : {f t o : Part} → f ≡ behind_of a.forward n ss → t ≡ behind_of a.turned k ts → o ≡ cond (eqb L 0) a.operator (behind_of a.operator n os)
        → ◌≡◌ {A = LevelParts} (record { forward = f; turned = t; operator = o }) (parts_at l ch m (suc L))
    parts_next p q r = λ i. record { forward = (p ∙ forward_next) i; turned = (q ∙ turned_next) i; operator = operator_next r i }
