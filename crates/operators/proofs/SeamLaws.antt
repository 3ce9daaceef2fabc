-- The seams: what a level's transfer leaves in the lists is what the next level's operator asks for, and what the next transfer asks for.
-- Assumes nothing.
use Prim.Native.Nat.{ℕ, suc, ◌+◌, ◌<◌}
use native.Mathlib.Omega.{arith}
use mathlib.Core.Path.{◌≡◌, sym, ap, subst, ◌∙◌}
use mathlib.Core.Bool.{Bool, ◌&&◌}
use mathlib.Core.List.{List}
use lib.ListN.{get_or}
use lib.Ieee.{Float}
use Rattle.numbers.specs.declared.C64.{C64}
use Rattle.numbers.specs.Lists.{tabulate, rows, laid_numbers, all_finite, start_of, read_from}
use Rattle.numbers.specs.Terms.{numbers_of, LaidRows, Stored}
use Rattle.numbers.specs.Transpose.{turned_row}
use Rattle.lattice.specs.declared.grid.Grid3d.{Grid3d}
use Rattle.lattice.specs.declared.levels.Three.{Three}
use Rattle.lattice.specs.Grid.{unknowns_of, Limits}
use Rattle.lattice.specs.Lattice.{FullLattice}
use Rattle.lattice.specs.Levels.{three_at}
use Rattle.weights.specs.TwoLevels.{TwoLevels, two_at, two_of}
use Rattle.weights.specs.Whole.{WholeRoom, WholeLeft, whole_finite}
use Rattle.numbers.specs.declared.terms.Part.{Part}
use Rattle.weights.proofs.PairLaws.{two_at_lem}
use Rattle.operators.specs.Galerkin.{rows_in}
use Rattle.operators.specs.LevelLists.{edges_on, TransferIn, OperatorIn}
use Rattle.operators.specs.Levels.{eps_at, forward_at, turned_at, galerkin_at}
use Rattle.numbers.proofs.TransposedLaws as Numbers
use Rattle.weights.proofs.SeamLaws.{nested_levels, WholeBy, whole_by, eps_next, eps_kept, finite_agree, finite_rows, forward_room, turned_room_lem, forward_stored, turned_stored}
use Rattle.operators.proofs.ForwardPattern.{grid_fine, forward_low}
use Rattle.operators.proofs.RangeLaws.{fine_edges_lem, coarse_edges_lem}

-- ---- what a level's transfer leaves, in the words of the levels

-- the permittivities of the next level, the forward rows and the turned rows have been laid; f reads the given permittivities
pub record TransferLaid (l : FullLattice) (f : ℕ → C64) (L : ℕ) (feps ceps : ℕ) (forward turned : Part) (eps : List Float) (ss cs : List ℕ) (xs : List Float) (ts us : List ℕ) (ys : List Float)
    (eps' : List Float) (ss' cs' : List ℕ) (xs' : List Float) (ts' us' : List ℕ) (ys' : List Float) : Type 0 where
  pub eps_are : eps' ≡ laid_numbers eps ceps (tabulate (eps_at l f (suc L)) (edges_on l (suc L)) 0)
  pub forward_are : LaidRows (forward_at l f L) (edges_on l L) ss forward.s cs xs forward.k ss' cs' xs'
  pub turned_are : LaidRows (turned_at l f L) (edges_on l (suc L)) ts turned.s us ys turned.k ts' us' ys'

-- the permittivities of level L stand in a list from a place on
abbrev pub EpsIn : FullLattice → (ℕ → C64) → ℕ → List Float → ℕ → Type 0
EpsIn l f L eps from = (r : ℕ) → r < edges_on l L → read_from eps from r ≡ eps_at l f L r

module _ (l : FullLattice) (limits : Limits l.grid) (L : ℕ) where
  module _ {fine coarse : Three} (lines : (fine ≡ three_at l L) × (coarse ≡ three_at l (suc L))) where
    two_is : two_of l fine coarse ≡ two_at l L
    two_is = (λ i. two_of l (lines.0 i) (lines.1 i)) ∙ two_at_lem l limits L

    -- whether all of it is finite
    pub transfer_finite : (f : ℕ → C64) (eps : List Float) (from : ℕ) → EpsIn l f L eps from → {b : Bool} → b ≡ whole_finite (two_of l fine coarse) (read_from eps from)
        → b ≡ (all_finite (tabulate (eps_at l f (suc L)) (edges_on l (suc L)) 0) && all_finite (numbers_of (rows (forward_at l f L) (edges_on l L))))
    unfolding eps_at forward_at
    transfer_finite f eps from given e =
        e
        ∙ ap (λ (t : TwoLevels). whole_finite t (read_from eps from)) two_is
        ∙ finite_agree (nested_levels l limits L) (read_from eps from) (eps_at l f L) (λ c b. given c (rw (fine_edges_lem l L) at b))
        ∙ finite_rows (two_at l L) (eps_at l f L)
        ∙ (λ i. all_finite (tabulate (eps_at l f (suc L)) (coarse_edges_lem l L i) 0) && all_finite (numbers_of (rows (forward_at l f L) (fine_edges_lem l L i))))

    module _ (f : ℕ → C64) {feps ceps : ℕ} {forward turned : Part} {eps : List Float} {ss cs : List ℕ} {xs : List Float} {ts us : List ℕ} {ys : List Float}
        {eps' : List Float} {ss' cs' : List ℕ} {xs' : List Float} {ts' us' : List ℕ} {ys' : List Float}
        (left : WholeLeft (two_of l fine coarse) feps ceps forward turned eps ss cs xs ts us ys eps' ss' cs' xs' ts' us' ys') (given : EpsIn l f L eps feps) where
      by : WholeBy (two_at l L) (eps_at l f L) feps ceps forward turned eps ss cs xs ts us ys eps' ss' cs' xs' ts' us' ys'
      by = whole_by (nested_levels l limits L) (eps_at l f L) (rw two_is at left) (λ c b. given c (rw (fine_edges_lem l L) at b))

      pub transfer_laid : TransferLaid l f L feps ceps forward turned eps ss cs xs ts us ys eps' ss' cs' xs' ts' us' ys'
      unfolding eps_at forward_at turned_at
      transfer_laid =
          record {
            eps_are = rw (coarse_edges_lem l L) at by.eps_are;
            forward_are = rw (fine_edges_lem l L) at by.forward_are;
            turned_are = subst (λ (n : ℕ). LaidRows (turned_at l f L) n ts turned.s us ys turned.k ts' us' ys') (coarse_edges_lem l L) by.turned_are;
          }

      module _ (room : WholeRoom (two_of l fine coarse) feps ceps forward turned eps ss cs xs ts us ys) where
        room_at : WholeRoom (two_at l L) feps ceps forward turned eps ss cs xs ts us ys
        room_at = rw two_is at room

        -- the seam from a transfer to an operator: it stands in the lists as the next level's operator asks for it
        pub transfer_in : TransferIn l f L forward ss' cs' xs' turned ts' us' ys'
        unfolding eps_at forward_at turned_at
        transfer_in =
            let u = nested_levels l limits L in
            let e = eps_at l f L in
            let g = eps_at l f (suc L) in
            let fs : Stored ss' forward.s cs' xs' forward.k (edges_on l L) (edges_on l (suc L)) =
            rw (fine_edges_lem l L, coarse_edges_lem l L) at (forward_stored u room_at e g by.forward_are) in
            let us : Stored ts' turned.s us' ys' turned.k (edges_on l (suc L)) (edges_on l L) =
            rw (fine_edges_lem l L, coarse_edges_lem l L) at (turned_stored u room_at e g by.turned_are) in
            let fa : (r : ℕ) → r < edges_on l L → rows_in forward ss' cs' xs' r ≡ forward_at l f L r =
            λ r b. Numbers.laid_row by.forward_are (forward_room u room_at e g) r (rw (fine_edges_lem l L) b) in
            let ua : (c : ℕ) → c < edges_on l (suc L) → rows_in turned ts' us' ys' c ≡ turned_at l f L c =
            λ c b. Numbers.laid_row by.turned_are (turned_room_lem u room_at e g) c (rw (coarse_edges_lem l L) b) in
            record {
              forward_stored = fs;
              turned_stored = us;
              forward_are = fa;
              turned_are = ua;
              forward_count_is = Numbers.stored_start (forward_at l f L) fs fa (edges_on l L) (omega arith);
              turned_count_is = Numbers.stored_start (turned_at l f L) us ua (edges_on l (suc L)) (omega arith);
            }

        -- the seam from a transfer to the next: the next level's permittivities stand where it left them, and this level's still do
        pub next_given : EpsIn l f (suc L) eps' ceps
        unfolding eps_at
        next_given r b = eps_next (nested_levels l limits L) room_at (eps_at l f L) by.eps_are r (rw (coarse_edges_lem l L) b)

        pub still_given : EpsIn l f L eps' feps
        still_given r b = eps_kept (nested_levels l limits L) room_at (eps_at l f L) by.eps_are r (rw (fine_edges_lem l L) b) ∙ given r b

-- ---- what stands in the lists stays, where the lists agree in its part

pub transfer_kept : {l : FullLattice} {f : ℕ → C64} {L : ℕ} {p : Part} {ss cs : List ℕ} {xs : List Float} {t : Part} {ts us : List ℕ} {ys : List Float}
    {ss' cs' : List ℕ} {xs' : List Float} {ts' us' : List ℕ} {ys' : List Float} → TransferIn l f L p ss cs xs t ts us ys
    → Numbers.Kept p.s p.k (edges_on l L) (get_or ss (p.s + edges_on l L) 0) ss cs xs ss' cs' xs'
    → Numbers.Kept t.s t.k (edges_on l (suc L)) (get_or ts (t.s + edges_on l (suc L)) 0) ts us ys ts' us' ys'
    → TransferIn l f L p ss' cs' xs' t ts' us' ys'
transfer_kept {l} {f} {L} {p} {t = t} {ss' = ss'} {cs' = cs'} {xs' = xs'} {ts' = ts'} {us' = us'} {ys' = ys'} u v w =
    let fs : Stored ss' p.s cs' xs' p.k (edges_on l L) (edges_on l (suc L)) = Numbers.stored_kept u.forward_stored v in
    let us : Stored ts' t.s us' ys' t.k (edges_on l (suc L)) (edges_on l L) = Numbers.stored_kept u.turned_stored w in
    let fa : (r : ℕ) → r < edges_on l L → rows_in p ss' cs' xs' r ≡ forward_at l f L r = λ r b. Numbers.row_kept u.forward_stored v r b ∙ u.forward_are r b in
    let ua : (c : ℕ) → c < edges_on l (suc L) → rows_in t ts' us' ys' c ≡ turned_at l f L c = λ c b. Numbers.row_kept u.turned_stored w c b ∙ u.turned_are c b in
    record {
      forward_stored = fs;
      turned_stored = us;
      forward_are = fa;
      turned_are = ua;
      forward_count_is = Numbers.stored_start (forward_at l f L) fs fa (edges_on l L) (omega arith);
      turned_count_is = Numbers.stored_start (turned_at l f L) us ua (edges_on l (suc L)) (omega arith);
    }

pub operator_kept : {l : FullLattice} {f : ℕ → C64} {L : ℕ} {o : Part} {ss cs : List ℕ} {xs : List Float} {ss' cs' : List ℕ} {xs' : List Float} → OperatorIn l f L o ss cs xs
    → Numbers.Kept o.s o.k (edges_on l L) (get_or ss (o.s + edges_on l L) 0) ss cs xs ss' cs' xs' → OperatorIn l f L o ss' cs' xs'
operator_kept {l} {f} {L} {o} {ss' = ss'} {cs' = cs'} {xs' = xs'} u v =
    let s : Stored ss' o.s cs' xs' o.k (edges_on l L) (edges_on l L) = Numbers.stored_kept u.stored v in
    let e : (r : ℕ) → r < edges_on l L → rows_in o ss' cs' xs' r ≡ galerkin_at l f L r = λ r b. Numbers.row_kept u.stored v r b ∙ u.rows_are r b in
    record { stored = s; rows_are = e; count_is = Numbers.stored_start (galerkin_at l f L) s e (edges_on l L) (omega arith) }

-- ---- how many terms stand in the lists

module _ {l : FullLattice} {f : ℕ → C64} {L : ℕ} {p : Part} {ss cs : List ℕ} {xs : List Float} {t : Part} {ts us : List ℕ} {ys : List Float} (u : TransferIn l f L p ss cs xs t ts us ys) where
  pub turned_count_lem : get_or ts (t.s + edges_on l (suc L)) 0 ≡ start_of (turned_at l f L) (edges_on l (suc L))
  turned_count_lem = u.turned_count_is

-- behind the operator's last row
pub operator_count_lem : {l : FullLattice} {f : ℕ → C64} {L : ℕ} {o : Part} {ss cs : List ℕ} {xs : List Float} → OperatorIn l f L o ss cs xs
    → get_or ss (o.s + edges_on l L) 0 ≡ start_of (galerkin_at l f L) (edges_on l L)
operator_count_lem u = u.count_is

-- the turned rows have as many terms as the forward rows
pub turned_as_many : (l : FullLattice) → Limits l.grid → (f : ℕ → C64) (L : ℕ) → start_of (turned_at l f L) (edges_on l (suc L)) ≡ start_of (forward_at l f L) (edges_on l L)
unfolding turned_at
turned_as_many l limits f L =
    ap (λ (g : Grid3d). start_of (turned_row (forward_at l f L) (unknowns_of g)) (edges_on l (suc L))) (sym (grid_fine l L))
    ∙ Numbers.turned_count_lem (forward_at l f L) (edges_on l L) (edges_on l (suc L)) (λ r c b i. forward_low l limits f L r c b i)
