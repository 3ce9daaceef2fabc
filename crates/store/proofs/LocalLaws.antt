-- A rule turns on nothing but the numbers that its row reads: from the locality theorems of the layers below. Assumes nothing.
use Prim.Native.Nat.{ℕ, zero, suc, ◌+◌}
use mathlib.Core.Path.{◌≡◌, refl, sym, ap, subst, ◌∙◌}
use mathlib.Core.List.{List, ◌∷◌, ◌++◌, map, []}
use lib.ListN.{length}
use Rattle.numbers.specs.declared.C64.{C64}
use Rattle.numbers.specs.Terms.{Term, columns_of, numbers_of}
use Rattle.numbers.specs.Lists.{each, start_of, In}
use Rattle.numbers.specs.Transpose.{turned_reads}
use Rattle.numbers.proofs.MemberLaws.{in_left, in_right}
use Rattle.numbers.proofs.TransposedLaws.{mem_in, map_same, tabulate_in}
use Rattle.lattice.specs.Lattice.{FullLattice}
use Rattle.weights.specs.CoarseEps.{eps_reads}
use Rattle.weights.specs.Prolongation.{weight_reads, weight_columns}
use Rattle.weights.specs.TwoLevels.{two_at}
use Rattle.weights.proofs.RowTheorems.{row_local, eps_local}
use Rattle.operators.specs.Averaged.{averaged_reads}
use Rattle.operators.specs.Galerkin.{fine_rows_read, forward_rows_read}
use Rattle.operators.specs.LevelLists.{edges_on}
use Rattle.operators.specs.Levels.{lattice_at}
use Rattle.operators.specs.Stencil.{stencil_row, stencil_reads}
use Rattle.operators.proofs.AverageLaws.{averaged_local}
use Rattle.operators.proofs.SecondCondition.{galerkin_local}
use Rattle.operators.proofs.StencilLaws.{stencil_local}
use Rattle.operators.proofs.VolumeLaws.{inverse_local}
use Rattle.store.specs.Space.{Look}
use Rattle.store.specs.Places.{space}
use Rattle.store.specs.Spots.{Kind, permittivity, forwards, turneds, entries, scales, spot, number_in}
use Rattle.store.specs.Layout.{forward_cols, turned_cols, operator_cols, forward_off, turned_off, operator_off, scale_off}
use Rattle.store.specs.declared.Choice.{Choice}
use Rattle.store.specs.declared.Choice.TheVariants.{Galerkin, Rediscretized}
use Rattle.store.specs.Rows.{Row, coarse, averaged, forward, turned, volume, share, operator, stored_in, row_spots, eps_spot, averaged_spot, eps_in, averaged_in, volume_in, forward_in, turned_in, operator_in, eps_spots, forward_spots, turned_spots, operator_spots, operator_rule, operator_reading, numbers, reading}
use Rattle.store.proofs.DressedLaws.{columns_dressed, dressed_same}
use Rattle.store.proofs.SpotLaws.{Agrees, map_in_lem, in_each}
use Rattle.store.proofs.ColumnLaws.{operator_cols_at}
use Rattle.operators.proofs.Equations.{galerkin_at_zero, fine_rows_read_is, forward_rows_read_is}

-- ---- rows that are looked up

-- a stored row sees its own numbers
stored_local : (f g : Look space) (k : Kind) (cols : ℕ → List ℕ) (off r : ℕ) → Agrees f g (row_spots k cols off r) → stored_in f k cols off r ≡ stored_in g k cols off r
stored_local f g k cols off r h =
    dressed_same (cols r) (number_in f k) (number_in g k) (off + start_of cols r)
    (λ q a b. h k q (tabulate_in (spot k) (length (cols r)) (off + start_of cols r) q a b))

module _ (l : FullLattice) (ch : Choice) (m : ℕ) (f g : Look space) where
  stencil_look : (r : ℕ) → Agrees f g (eps_spots l ch m 0 (stencil_reads l r)) → stencil_row l (eps_in l ch m f 0) r ≡ stencil_row l (eps_in l ch m g 0) r
  stencil_look r h =
      stencil_local l (eps_in l ch m f 0) (eps_in l ch m g 0) r
      (λ c i. h permittivity (eps_spot l ch m 0 c) (map_in_lem (λ c. spot permittivity (eps_spot l ch m 0 c)) (stencil_reads l r) c (mem_in i)))

  operator_look : (L r : ℕ) → Agrees f g (operator_spots l ch m L r) → operator_in l ch m f L r ≡ operator_in l ch m g L r
  operator_look zero r h = stencil_look r h
  operator_look (suc L) r h = stored_local f g entries (operator_cols l ch (suc L)) (operator_off l ch m (suc L)) r h

-- the columns of the finer operator's rows are its pattern, whatever is looked up
pub operator_in_cols : (l : FullLattice) (m : ℕ) (f : Look space) (L r : ℕ) → columns_of (operator_in l Galerkin m f L r) ≡ operator_cols l Galerkin L r
operator_in_cols l m f zero r =
    ap (λ (row : ℕ → List Term). columns_of (row r)) (sym (galerkin_at_zero l (eps_in l Galerkin m f 0))) ∙ operator_cols_at l Galerkin (eps_in l Galerkin m f 0) 0 r
operator_in_cols l m f (suc L) r =
    columns_dressed (operator_cols l Galerkin (suc L) r) (number_in f entries) (operator_off l Galerkin m (suc L) + start_of (operator_cols l Galerkin (suc L)) r)

pub turned_in_cols : (l : FullLattice) (ch : Choice) (m : ℕ) (f : Look space) (L c : ℕ) → columns_of (turned_in l ch m f L c) ≡ turned_cols l L c
turned_in_cols l ch m f L c = columns_dressed (turned_cols l L c) (number_in f turneds) (turned_off l L + start_of (turned_cols l L) c)

-- the rows that Galerkin's row reads are those of the pattern
pub fine_read : (l : FullLattice) (ch : Choice) (m : ℕ) (f : Look space) (L c : ℕ) → fine_rows_read (turned_in l ch m f L) c ≡ turned_cols l L c
fine_read l ch m f L c = fine_rows_read_is (turned_in l ch m f L) c ∙ turned_in_cols l ch m f L c

pub forward_read : (l : FullLattice) (m : ℕ) (f : Look space) (L c : ℕ)
    → forward_rows_read (operator_in l Galerkin m f L) (turned_in l Galerkin m f L) c ≡ each (operator_cols l Galerkin L) (turned_cols l L c)
forward_read l m f L c =
    forward_rows_read_is (operator_in l Galerkin m f L) (turned_in l Galerkin m f L) c
    ∙ (λ t. each (λ r. operator_in_cols l m f L r t) (turned_in_cols l Galerkin m f L c t))

-- ---- operator rows

operator_local : (l : FullLattice) (ch : Choice) (m : ℕ) (f g : Look space) (L r : ℕ) → Agrees f g (operator_reading l ch m L r) → operator_rule l ch m f L r ≡ operator_rule l ch m g L r
operator_local l Galerkin m f g zero r h = stencil_look l Galerkin m f g r h
operator_local l Galerkin m f g (suc L) c h =
    galerkin_local (operator_in l Galerkin m f L) (operator_in l Galerkin m g L) (forward_in l Galerkin m f L) (forward_in l Galerkin m g L)
    (turned_in l Galerkin m f L) (turned_in l Galerkin m g L) c
    (stored_local f g turneds (turned_cols l L) (turned_off l L) c (λ k q i. h k q (in_left (spot k q) (turned_spots l Galerkin m L c) rest i)))
    (λ r i. operator_look l Galerkin m f g L r
    (λ k q j. h k q (in_right (spot k q) (turned_spots l Galerkin m L c) rest
    (in_left (spot k q) fine forth (in_each (operator_spots l Galerkin m L) (turned_cols l L c) r (spot k q) (turned_has r i) j)))))
    (λ s i. stored_local f g forwards (forward_cols l L) (forward_off l L) s
    (λ k q j. h k q (in_right (spot k q) (turned_spots l Galerkin m L c) rest
    (in_right (spot k q) fine forth (in_each (forward_spots l Galerkin m L) (each (operator_cols l Galerkin L) (turned_cols l L c)) s (spot k q) (fine_has s i) j)))))
  where
    fine : List Rattle.store.specs.Spots.Spot
    fine = each (operator_spots l Galerkin m L) (turned_cols l L c)

    forth : List Rattle.store.specs.Spots.Spot
    forth = each (forward_spots l Galerkin m L) (each (operator_cols l Galerkin L) (turned_cols l L c))

    rest : List Rattle.store.specs.Spots.Spot
    rest = fine ++ forth

    turned_has : (r : ℕ) → In r (fine_rows_read (turned_in l Galerkin m f L) c) → In r (turned_cols l L c)
    turned_has r = subst (In r) (fine_read l Galerkin m f L c)

    fine_has : (s : ℕ) → In s (forward_rows_read (operator_in l Galerkin m f L) (turned_in l Galerkin m f L) c) → In s (each (operator_cols l Galerkin L) (turned_cols l L c))
    fine_has s = subst (In s) (forward_read l m f L c)
operator_local l Rediscretized m f g L r h =
    stencil_local (lattice_at l L) (averaged_in l Rediscretized m f L) (averaged_in l Rediscretized m g L) r
    (λ c i. h permittivity (averaged_spot l Rediscretized m L c) (map_in_lem (λ c. spot permittivity (averaged_spot l Rediscretized m L c)) (stencil_reads (lattice_at l L) r) c (mem_in i)))

-- ---- every row

module _ (l : FullLattice) (ch : Choice) (m : ℕ) (f g : Look space) where
  pub numbers_local : (r : Row) → Agrees f g (reading l ch m r) → numbers l ch m f r ≡ numbers l ch m g r
  unfolding numbers reading forward_cols
  numbers_local (coarse L r) h =
      ap (λ (v : C64). v ∷ []) (eps_local (two_at l L) (eps_in l ch m f L) (eps_in l ch m g L) r
      (λ c i. h permittivity (eps_spot l ch m L c) (map_in_lem (λ c. spot permittivity (eps_spot l ch m L c)) (eps_reads (two_at l L) r) c (mem_in i))))
  numbers_local (averaged L r) h =
      ap (λ (v : C64). v ∷ []) (averaged_local (two_at l L) (averaged_in l ch m f L) (averaged_in l ch m g L) r
      (λ c i. h permittivity (averaged_spot l ch m L c) (map_in_lem (λ c. spot permittivity (averaged_spot l ch m L c)) (averaged_reads (two_at l L) r) c (mem_in i))))
  numbers_local (forward L r) h =
      let first = eps_spots l ch m L (weight_reads (two_at l L) r) in
      let second = eps_spots l ch m (suc L) (weight_columns (two_at l L) r) in
      ap numbers_of (row_local (two_at l L) (eps_in l ch m f L) (eps_in l ch m g L) (eps_in l ch m f (suc L)) (eps_in l ch m g (suc L)) r
      (λ c i. h permittivity (eps_spot l ch m L c) (in_left (spot permittivity (eps_spot l ch m L c)) first second (map_in_lem (λ c. spot permittivity (eps_spot l ch m L c)) (weight_reads (two_at l L) r) c (mem_in i))))
      (λ c i. h permittivity (eps_spot l ch m (suc L) c) (in_right (spot permittivity (eps_spot l ch m (suc L) c)) first second (map_in_lem (λ c. spot permittivity (eps_spot l ch m (suc L) c)) (weight_columns (two_at l L) r) c (mem_in i)))))
  numbers_local (turned L c) h =
      map_same (λ q. number_in f forwards (forward_off l L + q)) (λ q. number_in g forwards (forward_off l L + q)) (turned_reads (weight_columns (two_at l L)) (edges_on l L) c)
      (λ q i. h forwards (forward_off l L + q) (map_in_lem (λ q. spot forwards (forward_off l L + q)) (turned_reads (weight_columns (two_at l L)) (edges_on l L) c) q i))
  numbers_local (volume L r) h = refl
  numbers_local (share L c) h =
      let first = turned_spots l ch m L c in
      let second = map (λ q. spot scales (scale_off l L + q)) (turned_cols l L c) in
      ap (λ (v : C64). v ∷ []) (inverse_local (turned_in l ch m f L) (turned_in l ch m g L) (volume_in l ch m f L) (volume_in l ch m g L) c
      (stored_local f g turneds (turned_cols l L) (turned_off l L) c (λ k q i. h k q (in_left (spot k q) first second i)))
      (λ d i. h scales (scale_off l L + d) (in_right (spot scales (scale_off l L + d)) first second (map_in_lem (λ q. spot scales (scale_off l L + q)) (turned_cols l L c) d
      (subst (In d) (turned_in_cols l ch m f L c) (mem_in i))))))
  numbers_local (operator L r) h = ap numbers_of (operator_local l ch m f g L r h)
