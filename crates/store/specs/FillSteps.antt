-- The steps of the phases: where the parts of one level begin, what one level's turn leaves in the lent lists, and the needs as the code counts them.
-- Assumes nothing.
use Rattle.std.specs.Prelude.{ℕ, suc, ◌+◌, ◌*◌, ◌/◌, ◌<◌, ◌≤◌, ◌≡◌, List, Bool, cond, eqb, leb, ltb, length, Float}
use Rattle.numbers.specs.declared.C64.{C64}
use Rattle.numbers.specs.Lists.{laid, laid_numbers, read_from, sum_to}
use Rattle.lattice.specs.Check.{Verdict, accepted, refused}
use Rattle.lattice.specs.Lattice.{FullLattice}
use Rattle.operators.specs.LevelLists.{edges_on}
use Rattle.operators.specs.Levels.{eps_at, ladder_of}
use Rattle.operators.specs.Numbered.{Right, word_count}
use Rattle.store.specs.Store.{Sizes}
use Rattle.store.specs.Layout.{next_edges, operator_count, eps_off, forward_off, turned_off, operator_off, starts_off, stored_starts, ends_off, eps_need, scale_need}
use Rattle.store.specs.Setup.{eps_part, forward_starts_of, forward_cols_of, forward_numbers, turned_starts_of, turned_cols_of, turned_numbers, all_to, room_of}
use Rattle.store.specs.Phases.{weights_fine, first_of, GivenIn, TransfersIn, OperatorsLeft, operator_fine}
use Rattle.store.specs.declared.Choice.{Choice}
use Rattle.store.specs.declared.Choice.TheVariants.{Galerkin, Rediscretized}
use Rattle.store.specs.declared.needs.Lengths.{Lengths}
use Rattle.store.specs.declared.needs.Needs.{Needs}
use Rattle.store.specs.declared.transfers.Offsets.{Offsets}

-- ---- transfers

-- where the parts of the transfer from level L + 1 to L begin, and those behind parts of n fine edges, k coarse ones and w weights
abbrev pub offsets_at : FullLattice → ℕ → Offsets
offsets_at l L =
    record {
      feps = eps_off l L;
      ceps = eps_off l (suc L);
      s = starts_off (edges_on l) L;
      k = forward_off l L;
      ts = starts_off (next_edges l) L;
      tk = turned_off l L;
    }

abbrev pub behind_of : Offsets → ℕ → ℕ → ℕ → Offsets
behind_of o n k w =
    record {
      feps = o.ceps;
      ceps = o.ceps + k;
      s = o.s + n + 1;
      k = o.k + w;
      ts = o.ts + k + 1;
      tk = o.tk + w;
    }

-- the permittivities of level L stand in the list
pub record EpsIn (l : FullLattice) (f : ℕ → C64) (L : ℕ) (eps : List Float) : Type 0 where
  pub each_is : (r : ℕ) → r < edges_on l L → read_from eps (eps_off l L) r ≡ eps_at l f L r

-- the transfer from level L + 1 to L has been laid
pub record TransferLeft (l : FullLattice) (f : ℕ → C64) (L : ℕ) (eps : List Float) (ss cs : List ℕ) (xs : List Float) (ts us : List ℕ) (ys : List Float)
    (eps' : List Float) (ss' cs' : List ℕ) (xs' : List Float) (ts' us' : List ℕ) (ys' : List Float) : Type 0 where
  pub eps_are : eps' ≡ laid_numbers eps (eps_off l (suc L)) (eps_part l f (suc L))
  pub starts_are : ss' ≡ laid ss (starts_off (edges_on l) L) (forward_starts_of l L)
  pub columns_are : cs' ≡ laid cs (forward_off l L) (forward_cols_of l L)
  pub values_are : xs' ≡ laid_numbers xs (forward_off l L) (forward_numbers l f L)
  pub tstarts_are : ts' ≡ laid ts (starts_off (next_edges l) L) (turned_starts_of l L)
  pub tcolumns_are : us' ≡ laid us (turned_off l L) (turned_cols_of l L)
  pub tvalues_are : ys' ≡ laid_numbers ys (turned_off l L) (turned_numbers l f L)

-- whichever permittivities f its own come from: what a level's turn leaves, and what ok says
pub record TransferDone (l : FullLattice) (L : ℕ) (ok : Bool) (eps : List Float) (ss cs : List ℕ) (xs : List Float) (ts us : List ℕ) (ys : List Float)
    (eps' : List Float) (ss' cs' : List ℕ) (xs' : List Float) (ts' us' : List ℕ) (ys' : List Float) : Type 0 where
  pub lists : (f : ℕ → C64) → EpsIn l f L eps → TransferLeft l f L eps ss cs xs ts us ys eps' ss' cs' xs' ts' us' ys'
  pub ok_is : (f : ℕ → C64) → EpsIn l f L eps → ok ≡ weights_fine l f L

-- ---- needs

-- u has the relations of level L
pub record Relations (l : FullLattice) (L : ℕ) (u : List ℕ) : Type 0 where
  pub long : length u ≡ word_count
  pub right : Right (ladder_of l) L u

-- the terms of the operators of levels 1 to m
abbrev pub coarse_terms : FullLattice → Choice → ℕ → ℕ
coarse_terms l ch m = sum_to (λ i. operator_count l ch (suc i)) m

-- what only a rediscretized store has
abbrev pub only_count : Choice → ℕ → ℕ
only_count Galerkin n = 0
only_count Rediscretized n = n

-- the need of each list
abbrev pub needs_of : FullLattice → Choice → ℕ → Needs
needs_of l ch m =
    record {
      ends = ends_off l (3 * suc m);
      eps = eps_need l ch m;
      starts = starts_off (edges_on l) m;
      terms = forward_off l m;
      tstarts = starts_off (next_edges l) m;
      ostarts = stored_starts l m (suc m);
      oterms = operator_off l ch m (suc m);
      scaling = scale_need l ch m;
    }

-- the lengths that the code has
abbrev pub sizes_of : Lengths → Sizes
sizes_of h =
    record {
      ends = h.ends;
      permittivities = h.eps;
      forward_starts = h.starts;
      forward_columns = h.columns;
      forward_values = h.values;
      turned_starts = h.tstarts;
      turned_columns = h.tcolumns;
      turned_values = h.tvalues;
      operator_starts = h.ostarts;
      operator_columns = h.ocolumns;
      operator_values = h.ovalues;
      scaling = h.scaling;
    }

-- the first of six lists that has no room, and 6 where all have
abbrev pub first_short : Bool → Bool → Bool → Bool → Bool → Bool → ℕ
first_short a b c d e f = cond a (cond b (cond c (cond d (cond e (cond f 6 5) 4) 3) 2) 1) 0

abbrev pub short_in : Needs → Lengths → ℕ
short_in n h =
    first_short
    (leb n.ends h.ends)
    (leb n.eps (h.eps / 2))
    (room_of n.starts n.terms h.starts h.columns h.values)
    (room_of n.tstarts n.terms h.tstarts h.tcolumns h.tvalues)
    (room_of n.ostarts n.oterms h.ostarts h.ocolumns h.ovalues)
    (leb n.scaling (h.scaling / 2))

-- refusal 6 by that number
abbrev pub numbered : ℕ → Verdict
numbered r = cond (eqb r 6) (accepted 0) (refused 6 r)

-- r is the first of m levels that fails a test, m where none does
pub record FirstBad (number : ℕ) (ok : ℕ → Bool) (m r : ℕ) : Type 0 where
  pub low : r ≤ m
  pub verdict : all_to number ok m ≡ cond (ltb r m) (refused number r) (accepted 0)

-- ---- Galerkin's operators

-- f reads the given permittivities, and the transfers that stand in the lists come from them
pub record TransfersBy (l : FullLattice) (f : ℕ → C64) (m : ℕ) (eps : List Float) (ss cs : List ℕ) (xs : List Float) (ts us : List ℕ) (ys : List Float) : Type 0 where
  pub given : GivenIn l f eps
  pub transfers : TransfersIn l f m ss cs xs ts us ys

-- so it is for some f
pub record OperatorsReady (l : FullLattice) (m : ℕ) (eps : List Float) (ss cs : List ℕ) (xs : List Float) (ts us : List ℕ) (ys : List Float) : Type 0 where
  pub reader : ℕ → C64
  pub by : TransfersBy l reader m eps ss cs xs ts us ys
  pub room : 2 * edges_on l 0 ≤ length eps

-- for whichever f it is so: the operators of levels 1 to m have been laid, and r is the first level that is not finite
pub record OperatorsDone (l : FullLattice) (m : ℕ) (eps : List Float) (ss cs : List ℕ) (xs : List Float) (ts us : List ℕ) (ys : List Float)
    (os oc : List ℕ) (ox : List Float) (os' oc' : List ℕ) (ox' : List Float) (r : ℕ) : Type 0 where
  pub lists : (f : ℕ → C64) → TransfersBy l f m eps ss cs xs ts us ys → OperatorsLeft l Galerkin f m m os oc ox os' oc' ox'
  pub first_is : (f : ℕ → C64) → TransfersBy l f m eps ss cs xs ts us ys → r ≡ first_of (operator_fine l Galerkin m f) m
