-- The columns and counts of the layers' rows are the store's, for all permittivities. Assumes nothing.
use Prim.Native.Nat.{ℕ, suc}
use mathlib.Core.Path.{◌≡◌, sym, ap, ◌∙◌}
use mathlib.Core.List.{List}
use lib.ListN.{length}
use Rattle.numbers.specs.declared.C64.{C64}
use Rattle.numbers.specs.Terms.{Term, columns_of}
use Rattle.numbers.specs.Lists.{In}
use Rattle.numbers.specs.Transpose.{turned_columns, turned_row, turned_reads}
use Rattle.numbers.proofs.SumLaws.{sum_agree}
use Rattle.numbers.proofs.PartLaws.{same_start}
use Rattle.numbers.proofs.TurnedLaws.{columns_of_turned, turned_columns_agree, turned_long as reads_long}
use Rattle.numbers.proofs.ListLaws.{through}
use Rattle.numbers.proofs.MemberLaws.{contains_in}
use Rattle.lattice.specs.Grid.{Limits}
use Rattle.lattice.specs.Lattice.{FullLattice}
use Rattle.operators.specs.LevelLists.{edges_on}
use Rattle.operators.specs.Levels.{forward_at, turned_at, galerkin_at}
use Rattle.operators.proofs.ColumnsOnly.{forward_columns_are, turned_at_same, galerkin_at_same, rediscretized_same, own_column}
use Rattle.operators.proofs.SeamLaws.{turned_as_many}
use Rattle.operators.proofs.RangeLaws.{fine_edges_lem}
use Rattle.store.specs.Layout.{operator_at, blank, forward_cols, turned_cols, operator_cols, forward_count, turned_count, forward_off, turned_off}
use Rattle.store.specs.declared.Choice.{Choice}
use Rattle.store.specs.declared.Choice.TheVariants.{Galerkin, Rediscretized}
use Rattle.operators.proofs.Equations.{turned_at_is}

pub forward_cols_at : (l : FullLattice) (f : ℕ → C64) (L r : ℕ) → columns_of (forward_at l f L r) ≡ forward_cols l L r
unfolding forward_cols
forward_cols_at l f L r = forward_columns_are l f L r

pub turned_cols_at : (l : FullLattice) (f : ℕ → C64) (L c : ℕ) → columns_of (turned_at l f L c) ≡ turned_cols l L c
unfolding turned_cols
turned_cols_at l f L c = turned_at_same l f blank L c

-- they are the rows that name c
pub turned_cols_are : (l : FullLattice) (L c : ℕ) → turned_cols l L c ≡ turned_columns (forward_cols l L) (edges_on l L) c
turned_cols_are l L c =
    sym (turned_cols_at l blank L c)
    ∙ ap (λ (row : ℕ → List Term). columns_of (row c)) (turned_at_is l blank L)
    ∙ ap (λ (n : ℕ). columns_of (turned_row (forward_at l blank L) n c)) (fine_edges_lem l L)
    ∙ columns_of_turned (forward_at l blank L) (edges_on l L) c
    ∙ turned_columns_agree (through columns_of (forward_at l blank L)) (forward_cols l L) (edges_on l L) (λ r b. forward_cols_at l blank L r) c

pub turned_long : (l : FullLattice) (L c : ℕ) → length (turned_reads (forward_cols l L) (edges_on l L) c) ≡ length (turned_cols l L c)
turned_long l L c = reads_long (forward_cols l L) c (edges_on l L) ∙ ap length (sym (turned_cols_are l L c))

pub operator_cols_at : (l : FullLattice) (ch : Choice) (f : ℕ → C64) (L r : ℕ) → columns_of (operator_at l ch f L r) ≡ operator_cols l ch L r
unfolding operator_cols
operator_cols_at l Galerkin f L r = galerkin_at_same l f blank L r
operator_cols_at l Rediscretized f L r = rediscretized_same l f blank L r

-- Galerkin's row names its own edge
pub own_in : (l : FullLattice) (L r : ℕ) → In r (operator_cols l Galerkin L r)
unfolding operator_cols
own_in l L r = contains_in r (columns_of (galerkin_at l blank L r)) (own_column l blank L r)

-- a transfer has as many turned weights as forward ones
pub turned_many : (l : FullLattice) → Limits l.grid → (L : ℕ) → turned_count l L ≡ forward_count l L
turned_many l limits L =
    sym (same_start (turned_at l blank L) (turned_cols l L) (turned_cols_at l blank L) (edges_on l (suc L)))
    ∙ turned_as_many l limits blank L
    ∙ same_start (forward_at l blank L) (forward_cols l L) (forward_cols_at l blank L) (edges_on l L)

pub turned_off_lem : (l : FullLattice) → Limits l.grid → (L : ℕ) → turned_off l L ≡ forward_off l L
turned_off_lem l limits L = sum_agree (turned_count l) (forward_count l) L (λ i b. turned_many l limits i)
