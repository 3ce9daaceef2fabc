-- The store's columns are what the code of the layers below scans out of the relations, before any number; and the flags of forward rows and of Galerkin's in the form that costs least.
-- Assumes nothing.
use Prim.Native.Nat.{ℕ, suc, ◌<◌}
use mathlib.Core.Path.{◌≡◌, sym, ap, subst}
use mathlib.Core.Logic.{⊎_elim}
use mathlib.Core.Bool.{Bool, ◌||◌}
use mathlib.Core.List.{List}
use native.Mathlib.Omega.{arith}
use Rattle.std.proofs.lemmas.Bool.{or_cases, or_left, or_right}
use Rattle.numbers.specs.Lists.{each, start_of}
use Rattle.numbers.proofs.ListLaws.{start_agree}
use Rattle.numbers.proofs.Laws.{bool_same}
use Rattle.lattice.specs.Grid.{Limits}
use Rattle.lattice.specs.Lattice.{FullLattice}
use Rattle.weights.specs.CoarseEps.{eps_reads}
use Rattle.weights.specs.Prolongation.{weight_columns, weight_reads}
use Rattle.weights.specs.TwoLevels.{two_at}
use Rattle.weights.proofs.RowReads.{reads_named}
use Rattle.operators.specs.LevelLists.{edges_on}
use Rattle.operators.specs.Levels.{grid_at, ladder_of, pattern_row, base_relations}
use Rattle.operators.specs.Numbered.{Right}
use Rattle.operators.proofs.GalerkinColumns.{galerkin_columns_lem}
use Rattle.operators.proofs.CountLaws.{rediscretized_columns}
use Rattle.operators.proofs.RangeLaws.{fine_edges_lem}
use Rattle.store.specs.Book.{settle, gate, change}
use Rattle.store.specs.Plan.{run, first_bad}
use Rattle.store.specs.Store.{Store}
use Rattle.store.specs.Changes.{Change, changes}
use Rattle.store.specs.Rows.{Row, full, rules}
use Rattle.store.specs.Layout.{blank, forward_cols, turned_cols, operator_cols, operator_count}
use Rattle.store.specs.declared.Choice.{Choice}
use Rattle.store.specs.declared.Choice.TheVariants.{Galerkin, Rediscretized}
use Rattle.store.specs.Reach.{any, eps_hit, forward_hit, turned_hit, galerkin_hit, hit}
use Rattle.store.proofs.PlanWork.{picked}
use Rattle.store.proofs.ReachLaws.{flags_reached, any_in, in_any}
use Rattle.store.proofs.SpotLaws.{in_each, each_in}
use Rattle.store.proofs.ColumnLaws.{own_in}

-- ---- columns

pub pattern_cols : (l : FullLattice) → Limits l.grid → (L : ℕ) (t : List ℕ) → Right (ladder_of l) L t → (r : ℕ) → r < edges_on l L → operator_cols l Galerkin L r ≡ pattern_row l (grid_at l L) t r
unfolding operator_cols
pattern_cols l limits L t right r h = galerkin_columns_lem l limits blank L t right r h

pub pattern_count : (l : FullLattice) → Limits l.grid → (L : ℕ) (t : List ℕ) → Right (ladder_of l) L t → operator_count l Galerkin L ≡ start_of (pattern_row l (grid_at l L) t) (edges_on l L)
pattern_count l limits L t right =
    start_agree (operator_cols l Galerkin L) (pattern_row l (grid_at l L) t) (edges_on l L) (pattern_cols l limits L t right) (edges_on l L) (omega arith)

pub own_pattern_cols : (l : FullLattice) → Limits l.grid → (L : ℕ) (t : List ℕ) → t ≡ base_relations l (grid_at l L) → (r : ℕ) → r < edges_on l L
    → operator_cols l Rediscretized L r ≡ pattern_row l (grid_at l L) t r
unfolding operator_cols
own_pattern_cols l limits L t base r h = rediscretized_columns l limits blank L t base r h

-- ---- flags

-- fine row r is reached, or leads to a forward row that is: worked out once for each fine row
unfoldable pub leads : FullLattice → ℕ → ℕ → ℕ → Bool
leads l e L r = galerkin_hit l e L r || any (forward_hit l e L) (operator_cols l Galerkin L r)

-- then a row of Galerkin's operator is reached just where a fine row of its turned row leads
pub galerkin_hit_lem : (l : FullLattice) (e L c : ℕ) → galerkin_hit l e (suc L) c ≡ any (leads l e L) (turned_cols l L c)
unfolding galerkin_hit turned_hit leads
galerkin_hit_lem l e L c =
    let ts = turned_cols l L c in
    let named = each (operator_cols l Galerkin L) ts in
    bool_same (turned_hit l e L c || (any (galerkin_hit l e L) ts || any (forward_hit l e L) named)) (any (leads l e L) ts)
    (λ h. ⊎_elim
    (λ a. let t = any_in (forward_hit l e L) ts a in
    in_any (leads l e L) ts t.0 t.1 (or_right (galerkin_hit l e L t.0) _ (in_any (forward_hit l e L) (operator_cols l Galerkin L t.0) t.0 (own_in l L t.0) t.2)))
    (λ a. ⊎_elim
    (λ b. let t = any_in (galerkin_hit l e L) ts b in in_any (leads l e L) ts t.0 t.1 (or_left _ _ t.2))
    (λ b. let t = any_in (forward_hit l e L) named b in
    let u = each_in (operator_cols l Galerkin L) ts t.0 t.1 in
    in_any (leads l e L) ts u.0 u.1 (or_right (galerkin_hit l e L u.0) _ (in_any (forward_hit l e L) (operator_cols l Galerkin L u.0) t.0 u.2 t.2)))
    (or_cases (any (galerkin_hit l e L) ts) (any (forward_hit l e L) named) a))
    (or_cases (turned_hit l e L c) (any (galerkin_hit l e L) ts || any (forward_hit l e L) named) h))
    (λ h. let t = any_in (leads l e L) ts h in
    or_right (turned_hit l e L c) _ (⊎_elim
    (λ a. or_left _ _ (in_any (galerkin_hit l e L) ts t.0 t.1 a))
    (λ a. let u = any_in (forward_hit l e L) (operator_cols l Galerkin L t.0) a in
    or_right (any (galerkin_hit l e L) ts) _ (in_any (forward_hit l e L) named u.0 (in_each (operator_cols l Galerkin L) ts t.0 u.0 t.1 u.1) u.2))
    (or_cases (galerkin_hit l e L t.0) (any (forward_hit l e L) (operator_cols l Galerkin L t.0)) t.2)))

-- what a forward row reads of its fine level, the permittivity of one of its columns reads: so the row is reached just where one of its columns' permittivities is
pub forward_hit_lem : (l : FullLattice) → Limits l.grid → (e L r : ℕ) → r < edges_on l L → forward_hit l e L r ≡ any (eps_hit l e (suc L)) (forward_cols l L r)
unfolding forward_hit eps_hit forward_cols
forward_hit_lem l limits e L r b =
    let reads = weight_reads (two_at l L) r in
    let cols = weight_columns (two_at l L) r in
    bool_same (any (eps_hit l e L) reads || any (eps_hit l e (suc L)) cols) (any (eps_hit l e (suc L)) cols)
    (λ h. ⊎_elim
    (λ a. let t = any_in (eps_hit l e L) reads a in
    let n = reads_named l limits L r t.0 (subst (λ (k : ℕ). r < k) (sym (fine_edges_lem l L)) b) t.1 in
    in_any (eps_hit l e (suc L)) cols n.0 n.1 (in_any (eps_hit l e L) (eps_reads (two_at l L) n.0) t.0 n.2 t.2))
    (λ a. a)
    (or_cases (any (eps_hit l e L) reads) (any (eps_hit l e (suc L)) cols) h))
    (λ h. or_right (any (eps_hit l e L) reads) _ h)

-- ---- a change, by the flags: of any store, also one whose numbers were altered

pub change_by_flags : (l : FullLattice) (limits : Limits l.grid) (ch : Choice) (m : ℕ) (s : Store) (c : Change) → c.edge < edges_on l 0
    → let plan = picked (rules l ch m) (hit l c.edge ch) (full l ch m) in
    change (rules l ch m) (changes l) s c
    ≡ gate ((changes l).bad c) (settle (first_bad (rules l ch m) plan ((changes l).edit s c)) (run (rules l ch m) plan ((changes l).edit s c)) s) s
unfolding change
change_by_flags l limits ch m s c h =
    ap (λ (rs : List Row). gate ((changes l).bad c) (settle (first_bad (rules l ch m) rs ((changes l).edit s c)) (run (rules l ch m) rs ((changes l).edit s c)) s) s)
    (sym (flags_reached l limits m c.edge h ch))
