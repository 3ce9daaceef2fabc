-- What the functions of a change promise: the lists that it reads only and the lists of numbers, and rows worked out anew in them.
-- Assumes nothing.
use Rattle.std.specs.Prelude.{ℕ, suc, ◌*◌, ◌≤◌, List, length, Float}
use Rattle.lattice.specs.Grid.{Limits}
use Rattle.lattice.specs.Lattice.{FullLattice}
use Rattle.operators.specs.LevelLists.{edges_on}
use Rattle.store.specs.Store.{Store}
use Rattle.store.specs.Layout.{forward_off, turned_off, operator_off, next_edges, starts_off, stored_starts, eps_need, scale_need}
use Rattle.store.specs.Rows.{Row, rules}
use Rattle.store.specs.Work.{Structured}
use Rattle.store.specs.Worked.{Worked, Tried}
use Rattle.store.specs.declared.Choice.{Choice}

-- starts and columns of the forward, the turned and the operator rows
pub record Fixed : Type 0 where
  pub fs : List ℕ
  pub fc : List ℕ
  pub ts : List ℕ
  pub tc : List ℕ
  pub os : List ℕ
  pub oc : List ℕ

abbrev pub fixed : List ℕ → List ℕ → List ℕ → List ℕ → List ℕ → List ℕ → Fixed
fixed fs fc ts tc os oc = record { fs = fs; fc = fc; ts = ts; tc = tc; os = os; oc = oc }

-- permittivities; the numbers of the forward, the turned and the operator rows; scaling
pub record Five : Type 0 where
  pub e : List Float
  pub f : List Float
  pub t : List Float
  pub o : List Float
  pub c : List Float

abbrev pub five : List Float → List Float → List Float → List Float → List Float → Five
five e f t o c = record { e = e; f = f; t = t; o = o; c = c }

abbrev pub store_of : List ℕ → Fixed → Five → Store
store_of ends x v =
    record {
      ends = ends;
      permittivities = v.e;
      forward_starts = x.fs;
      forward_columns = x.fc;
      forward_values = v.f;
      turned_starts = x.ts;
      turned_columns = x.tc;
      turned_values = v.t;
      operator_starts = x.os;
      operator_columns = x.oc;
      operator_values = v.o;
      scaling = v.c;
    }

-- room in the lists of words
pub record FixedRoom (l : FullLattice) (ch : Choice) (m : ℕ) (x : Fixed) : Type 0 where
  pub fs_room : starts_off (edges_on l) m ≤ length x.fs
  pub fc_room : forward_off l m ≤ length x.fc
  pub ts_room : starts_off (next_edges l) m ≤ length x.ts
  pub tc_room : turned_off l m ≤ length x.tc
  pub os_room : stored_starts l m (suc m) ≤ length x.os
  pub oc_room : operator_off l ch m (suc m) ≤ length x.oc

-- room in the lists of numbers
pub record FiveRoom (l : FullLattice) (ch : Choice) (m : ℕ) (v : Five) : Type 0 where
  pub e_room : 2 * eps_need l ch m ≤ length v.e
  pub f_room : 2 * forward_off l m ≤ length v.f
  pub t_room : 2 * turned_off l m ≤ length v.t
  pub o_room : 2 * operator_off l ch m (suc m) ≤ length v.o
  pub c_room : 2 * scale_need l ch m ≤ length v.c

-- starts and columns are the lattice's, whatever the numbers: what refusal 11 has tested
pub record Shaped (l : FullLattice) (ch : Choice) (m : ℕ) (x : Fixed) : Type 0 where
  pub limits : Limits l.grid
  pub few : m ≤ 11
  pub room : FixedRoom l ch m x
  pub ends : List ℕ
  pub structured : (v : Five) → Structured l ch m (store_of ends x v)

-- the rows rs worked out anew in the lists of numbers, up to the first that is not finite
pub record Renewed (l : FullLattice) (ch : Choice) (m : ℕ) (x : Fixed) (rs : List Row) (v : Five) (n : ℕ) (u : Five) : Type 0 where
  pub worked : (ends : List ℕ) → Structured l ch m (store_of ends x v) → Worked (rules l ch m) rs (store_of ends x v) n (store_of ends x u)

-- the same, and all as before where a number is not finite
pub record Restored (l : FullLattice) (ch : Choice) (m : ℕ) (x : Fixed) (rs : List Row) (v : Five) (n : ℕ) (u : Five) : Type 0 where
  pub tried : (ends : List ℕ) → Structured l ch m (store_of ends x v) → Tried (rules l ch m) rs (store_of ends x v) n (store_of ends x u)
