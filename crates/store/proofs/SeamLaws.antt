-- The seams: the parts that a phase laid level by level stand in the lists as the next phase asks for them.
-- Assumes nothing.
use Prim.Native.Nat.{ℕ, suc, ◌+◌, ◌*◌, ◌≤◌, ◌<◌, ◌^◌}
use mathlib.Core.Path.{◌≡◌, refl, sym, ap, ◌∙◌}
use mathlib.Core.List.{List}
use native.Mathlib.Omega.{arith}
use lib.ListN.{length, get_or, set}
use lib.Ieee.{Float}
use Rattle.numbers.specs.declared.C64.{C64}
use Rattle.numbers.specs.Complex.{no_number}
use Rattle.numbers.specs.Places.{number_at, set_number}
use Rattle.numbers.specs.Lists.{In, rows, laid, laid_numbers, start_of, starts_of, sum_to}
use Rattle.numbers.specs.Terms.{Term, columns_of, numbers_of, stored_row, LaidRows, Room, Stored}
use Rattle.numbers.proofs.ListLaws.{rows_at, laid_length, laid_numbers_length, laid_numbers_at, laid_before, laid_numbers_before}
use Rattle.numbers.proofs.SumLaws.{sum_to_zero, sum_to_suc}
use Rattle.numbers.proofs.Equations.{read_from_is}
use Rattle.numbers.proofs.TabulateLaws.{tabulate_at_0}
use Rattle.numbers.proofs.TransposedLaws.{Kept, laid_count, laid_row, laid_stored, row_kept, starts_same, columns_same, stored_kept, stored_start}
use Rattle.numbers.proofs.PartLaws.{laid_part, laid_split, part_room, parts_from, rows_sum}
use Rattle.lattice.specs.Grid.{Limits}
use Rattle.lattice.specs.Lattice.{FullLattice}
use Rattle.operators.specs.LevelLists.{edges_on, TransferIn}
use Rattle.operators.specs.Levels.{eps_at, forward_at, turned_at}
use Rattle.operators.proofs.ForwardPattern.{forward_low}
use Rattle.operators.proofs.RangeLaws.{turned_names_low}
use Rattle.store.specs.Layout.{forward_cols, turned_cols, next_edges, forward_count, turned_count}
use Rattle.store.specs.Setup.{eps_part, forward_starts_of, forward_cols_of, forward_numbers, turned_starts_of, turned_cols_of, turned_numbers}
use Rattle.store.specs.Phases.{forward_part, turned_part, GivenIn, TransferRoom, TransfersLeft, TransfersIn}
use Rattle.store.specs.FillSteps.{TransfersBy, OperatorsReady}
use Rattle.operators.proofs.Equations.{eps_at_zero}
use Rattle.store.proofs.SizeLaws as Sizes
use Rattle.store.proofs.ColumnLaws.{forward_cols_at, turned_cols_at, turned_many}

-- ---- parts of rows, one behind another in three lists: starts SS, columns CC, numbers XX, gs i starts and gc i terms in part i

module _ (SS CC : ℕ → List ℕ) (XX : ℕ → List C64) (gs gc : ℕ → ℕ) (ls : (i : ℕ) → length (SS i) ≡ gs i) (lc : (i : ℕ) → length (CC i) ≡ gc i) (lx : (i : ℕ) → length (XX i) ≡ gc i)
    (ss cs : List ℕ) (xs : List Float) (L : ℕ) (row : ℕ → List Term) (n : ℕ)
    (es : SS L ≡ starts_of row n) (ec : CC L ≡ columns_of (rows row n)) (ex : XX L ≡ numbers_of (rows row n)) (rows_are : gs L ≡ n + 1) (terms_are : gc L ≡ start_of row n) where
  -- part L has been laid behind those before it
  pub part_laid : LaidRows row n (laid ss 0 (rows SS L)) (sum_to gs L) (laid cs 0 (rows CC L)) (laid_numbers xs 0 (rows XX L)) (sum_to gc L)
      (laid ss 0 (rows SS (suc L))) (laid cs 0 (rows CC (suc L))) (laid_numbers xs 0 (rows XX (suc L)))
  part_laid =
      record {
        starts_are = sym (laid_part set ss SS gs ls L refl refl) ∙ ap (laid (laid ss 0 (rows SS L)) (sum_to gs L)) es;
        columns_are = sym (laid_part set cs CC gc lc L refl refl) ∙ ap (laid (laid cs 0 (rows CC L)) (sum_to gc L)) ec;
        numbers_are = sym (laid_part set_number xs XX gc lx L refl refl) ∙ ap (laid_numbers (laid_numbers xs 0 (rows XX L)) (sum_to gc L)) ex;
      }

  module _ (M : ℕ) (h : L < M) (rs : sum_to gs M ≤ length ss) (rc : sum_to gc M ≤ length cs) (rx : 2 * sum_to gc M ≤ length xs) (s_low : sum_to gs L ≤ 2 ^ 32) (k_low : sum_to gc L ≤ 2 ^ 32) where
    pub part_space : Room (laid ss 0 (rows SS L)) (sum_to gs L) (laid cs 0 (rows CC L)) (laid_numbers xs 0 (rows XX L)) (sum_to gc L) (start_of row n) n
    part_space =
        let a = part_room gs L M h in
        let b = part_room gc L M h in
        record {
          starts_room = omega (arith, laid_length ss 0 (rows SS L));
          columns_room = omega (arith, laid_length cs 0 (rows CC L));
          numbers_room = omega (arith, laid_numbers_length xs 0 (rows XX L));
          starts_low = s_low;
          low = k_low;
        }

    -- and those behind it leave it as it is
    part_kept : Kept (sum_to gs L) (sum_to gc L) n (start_of row n) (laid ss 0 (rows SS (suc L))) (laid cs 0 (rows CC (suc L))) (laid_numbers xs 0 (rows XX (suc L)))
        (laid ss 0 (rows SS M)) (laid cs 0 (rows CC M)) (laid_numbers xs 0 (rows XX M))
    part_kept =
        let a = sum_to_suc gs L in
        let b = sum_to_suc gc L in
        record {
          starts_long = laid_length ss 0 (rows SS M) ∙ sym (laid_length ss 0 (rows SS (suc L)));
          columns_long = laid_length cs 0 (rows CC M) ∙ sym (laid_length cs 0 (rows CC (suc L)));
          numbers_long = laid_numbers_length xs 0 (rows XX M) ∙ sym (laid_numbers_length xs 0 (rows XX (suc L)));
          starts_kept = λ r i.
              ap (λ (vs : List ℕ). get_or vs (sum_to gs L + r) 0) (laid_split set ss SS gs ls (suc L) M h)
              ∙ laid_before (laid ss 0 (rows SS (suc L))) (sum_to gs (suc L)) (parts_from SS (suc L) M) (sum_to gs L + r) (omega arith);
          columns_kept = λ q i.
              ap (λ (vs : List ℕ). get_or vs (sum_to gc L + q) 0) (laid_split set cs CC gc lc (suc L) M h)
              ∙ laid_before (laid cs 0 (rows CC (suc L))) (sum_to gc (suc L)) (parts_from CC (suc L) M) (sum_to gc L + q) (omega arith);
          numbers_kept = λ q i.
              ap (λ (vs : List Float). number_at vs (sum_to gc L + q)) (laid_split set_number xs XX gc lx (suc L) M h)
              ∙ laid_numbers_before (laid_numbers xs 0 (rows XX (suc L))) (sum_to gc (suc L)) (parts_from XX (suc L) M) (sum_to gc L + q) (omega arith);
        }

    module _ (m : ℕ) (low : (r c : ℕ) → r < n → In c (columns_of (row r)) → c < m) (few : n ≤ 12288) (wide : m ≤ 12288) (all : start_of row n ≤ 2 ^ 32) where
      there : Stored (laid ss 0 (rows SS (suc L))) (sum_to gs L) (laid cs 0 (rows CC (suc L))) (laid_numbers xs 0 (rows XX (suc L))) (sum_to gc L) n m
      there = laid_stored part_laid part_space m low few wide all

      stays : Kept (sum_to gs L) (sum_to gc L) n (get_or (laid ss 0 (rows SS (suc L))) (sum_to gs L + n) 0)
          (laid ss 0 (rows SS (suc L))) (laid cs 0 (rows CC (suc L))) (laid_numbers xs 0 (rows XX (suc L))) (laid ss 0 (rows SS M)) (laid cs 0 (rows CC M)) (laid_numbers xs 0 (rows XX M))
      stays = rw (laid_count part_laid part_space.starts_room) part_kept

      -- so it stands in the lists when all parts have been laid
      pub part_there_lem : (Stored (laid ss 0 (rows SS M)) (sum_to gs L) (laid cs 0 (rows CC M)) (laid_numbers xs 0 (rows XX M)) (sum_to gc L) n m)
          × ((r : ℕ) → r < n → stored_row (laid ss 0 (rows SS M)) (sum_to gs L) (laid cs 0 (rows CC M)) (laid_numbers xs 0 (rows XX M)) (sum_to gc L) r ≡ row r)
      part_there_lem = (stored_kept there stays, λ r b. row_kept there stays r b ∙ laid_row part_laid part_space r b)

-- ---- every transfer stands in the lists that the transfers leave

module _ (l : FullLattice) (limits : Limits l.grid) (f : ℕ → C64) (m : ℕ) (deep : m ≤ 11) {eps : List Float} {ss cs : List ℕ} {xs : List Float} {ts us : List ℕ} {ys : List Float}
    (room : TransferRoom l m eps ss cs xs ts us ys) (L : ℕ) (h : L < m) where
  each_in : TransferIn l f L (forward_part l L) (laid ss 0 (rows (forward_starts_of l) m)) (laid cs 0 (rows (forward_cols_of l) m)) (laid_numbers xs 0 (rows (forward_numbers l f) m))
      (turned_part l L) (laid ts 0 (rows (turned_starts_of l) m)) (laid us 0 (rows (turned_cols_of l) m)) (laid_numbers ys 0 (rows (turned_numbers l f) m))
  each_in =
      let n = edges_on l L in
      let k = edges_on l (suc L) in
      let P = forward_at l f L in
      let R = turned_at l f L in
      let fs = sym (starts_same P (forward_cols l L) n (λ r b. forward_cols_at l f L r)) in
      let fc = sym (columns_same P (forward_cols l L) n (λ r b. forward_cols_at l f L r)) in
      let tc = sym (columns_same R (turned_cols l L) k (λ r b. turned_cols_at l f L r)) in
      let ts' = sym (starts_same R (turned_cols l L) k (λ r b. turned_cols_at l f L r)) in
      let fe = Sizes.edges_few l limits L in
      let ke = Sizes.edges_few l limits (suc L) in
      let fn = sym (Sizes.forward_count_lem l f L) in
      let tn = sym (Sizes.turned_count_lem l f L) in
      let ff = Sizes.forward_few l limits L in
      let tm = turned_many l limits L in
      let a : sum_to (λ i. edges_on l i + 1) L ≤ 2 ^ 32 = omega (arith, Sizes.starts_low l limits L) in
      let b : sum_to (forward_count l) L ≤ 2 ^ 32 = omega (arith, Sizes.forward_low l limits L) in
      let c : sum_to (λ i. next_edges l i + 1) L ≤ 2 ^ 32 = omega (arith, Sizes.tstarts_low l limits L) in
      let d : sum_to (turned_count l) L ≤ 2 ^ 32 = omega (arith, Sizes.turned_low l limits L) in
      let fw = part_there_lem (forward_starts_of l) (forward_cols_of l) (forward_numbers l f) (λ i. edges_on l i + 1) (forward_count l) (Sizes.fstarts_long l) (Sizes.fcols_long l) (Sizes.fnumbers_long l f)
      ss cs xs L P n fs fc refl refl fn m h room.forward_starts_are room.forward_columns_are room.forward_values_are a b k (λ r q o i. forward_low l limits f L r q o i) fe ke (omega (arith, fn)) in
      let tw = part_there_lem (turned_starts_of l) (turned_cols_of l) (turned_numbers l f) (λ i. next_edges l i + 1) (turned_count l) (Sizes.tstarts_long l) (Sizes.tcols_long l) (Sizes.tnumbers_long l f)
      ts us ys L R k ts' tc refl refl tn m h room.turned_starts_are room.turned_columns_lem room.turned_values_are c d n (λ r q o i. turned_names_low l limits L f r q i) ke fe (omega (arith, tn)) in
      record {
        forward_stored = fw.0;
        turned_stored = tw.0;
        forward_are = fw.1;
        turned_are = tw.1;
        forward_count_is = stored_start P fw.0 fw.1 n (omega arith);
        turned_count_is = stored_start R tw.0 tw.1 k (omega arith);
      }

pub transfers_in : (l : FullLattice) → Limits l.grid → (f : ℕ → C64) (m : ℕ) → m ≤ 11
    → {eps : List Float} {ss cs : List ℕ} {xs : List Float} {ts us : List ℕ} {ys eps' : List Float} {ss' cs' : List ℕ} {xs' : List Float} {ts' us' : List ℕ} {ys' : List Float}
    → TransferRoom l m eps ss cs xs ts us ys → TransfersLeft l f m eps ss cs xs ts us ys eps' ss' cs' xs' ts' us' ys' → TransfersIn l f m ss' cs' xs' ts' us' ys'
transfers_in l limits f m deep room left =
    rw (left.starts_are, left.columns_are, left.values_are, left.tstarts_are, left.tcolumns_are, left.tvalues_are)
    (record { each_in = each_in l limits f m deep room })

-- and the given permittivities stand at the front
pub given_in : (l : FullLattice) (f : ℕ → C64) (m : ℕ)
    → {eps : List Float} {ss cs : List ℕ} {xs : List Float} {ts us : List ℕ} {ys eps' : List Float} {ss' cs' : List ℕ} {xs' : List Float} {ts' us' : List ℕ} {ys' : List Float}
    → TransferRoom l m eps ss cs xs ts us ys → TransfersLeft l f m eps ss cs xs ts us ys eps' ss' cs' xs' ts' us' ys' → GivenIn l f eps'
given_in l f m {eps} {eps' = eps'} room left =
    let P = eps_part l f in
    let n = rows_sum P (edges_on l) (Sizes.eps_long l f) (suc m) in
    let none : length (rows P 0) ≡ 0 = rows_sum P (edges_on l) (Sizes.eps_long l f) 0 ∙ sum_to_zero (edges_on l) in
    let first = part_room (edges_on l) 0 (suc m) (omega arith) in
    let zero_sum = sum_to_zero (edges_on l) in
    record {
      reads = λ r h.
          let z : r ≡ length (rows P 0) + r = omega arith in
          read_from_is eps' 0 r
          ∙ ap (λ (vs : List Float). number_at vs (0 + r)) left.eps_are
          ∙ laid_numbers_at eps 0 (rows P (suc m)) r no_number (omega arith) (omega (arith, room.eps_room))
          ∙ ap (λ (j : ℕ). get_or (rows P (suc m)) j no_number) z
          ∙ rows_at P (suc m) 0 r no_number (omega arith) (omega (arith, Sizes.eps_long l f 0))
          ∙ tabulate_at_0 (eps_at l f 0) (edges_on l 0) r no_number h
          ∙ ap (λ (g : ℕ → C64). g r) (eps_at_zero l f);
    }

-- so the operators may be worked out from them
pub operators_ready : (l : FullLattice) → Limits l.grid → (f : ℕ → C64) (m : ℕ) → m ≤ 11
    → {eps : List Float} {ss cs : List ℕ} {xs : List Float} {ts us : List ℕ} {ys eps' : List Float} {ss' cs' : List ℕ} {xs' : List Float} {ts' us' : List ℕ} {ys' : List Float}
    → TransferRoom l m eps ss cs xs ts us ys → TransfersLeft l f m eps ss cs xs ts us ys eps' ss' cs' xs' ts' us' ys'
    → (TransfersBy l f m eps' ss' cs' xs' ts' us' ys') × (OperatorsReady l m eps' ss' cs' xs' ts' us' ys')
operators_ready l limits f m deep {eps} {eps' = eps'} {ss' = ss'} {cs' = cs'} {xs' = xs'} {ts' = ts'} {us' = us'} {ys' = ys'} room left =
    let by : TransfersBy l f m eps' ss' cs' xs' ts' us' ys' = record { given = given_in l f m room left; transfers = transfers_in l limits f m deep room left } in
    let first = part_room (edges_on l) 0 (suc m) (omega arith) in (
      by,
      record {
        reader = f;
        by = by;
        room = omega (arith, sum_to_zero (edges_on l), room.eps_room, ap length left.eps_are, laid_numbers_length eps 0 (rows (eps_part l f) (suc m)));
      },
    )
