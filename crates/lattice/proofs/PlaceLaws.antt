-- Laws of the lattice: a position moved across its component, a line in a record, unknowns, what a row reads.
-- Assumes nothing.
use Prim.Native.Nat.{ℕ, zero, suc, ◌-◌, ◌<◌}
use native.Mathlib.Omega.{arith}
use mathlib.Core.Path.{◌≡◌, refl}
use mathlib.Core.Bool.{Bool, true, false, cond}
use mathlib.Core.List.{List, [], ◌∷◌}
use lib.ListN.{length}
use Rattle.numbers.specs.Lists.{each}
use Rattle.numbers.specs.Terms.{Term, columns_of}
use Rattle.numbers.proofs.EachLaws.{All, none, more}
use Rattle.numbers.proofs.Equations.{columns_of_nil, columns_of_cons}
use Rattle.numbers.proofs.TermLaws as Terms
use Rattle.lattice.specs.declared.grid.Grid3d.{Grid3d}
use Rattle.lattice.specs.declared.grid.Position.{Position}
use Rattle.lattice.specs.Curls.{gradient_of}
use Rattle.lattice.specs.Grid.{axis3, cells_of, unknowns_of, n_of, next_axis, last_axis, moved_to, Limits, Inside}
use Rattle.lattice.specs.Lattice.{FullLattice}
use Rattle.lattice.specs.Line.{packed}
use Rattle.lattice.specs.Neighbours.{is_fixed}
use Rattle.lattice.specs.Rows.{free_of, free_columns, free_columns_of, row_reads}
use Rattle.lattice.proofs.RowLaws.{low_divergence, low_gradient}
use Rattle.numbers.proofs.ElementLaws.{all_each_low}

-- ---- moved across

-- p moved to places of the grid on the two axes across its component
abbrev pub moved_across : Position → ℕ → ℕ → Position
moved_across p x y = moved_to (moved_to p (next_axis p.component) x) (last_axis p.component) y

-- every edge of the grid along the line through it is inside
pub moved_across_lem : (g : Grid3d) (p : Position) (x y : ℕ) → p.component < 3 → x < n_of g (next_axis p.component) → y < n_of g (last_axis p.component)
    → ((moved_across p x y).component < 3) × ((m : ℕ) → m < n_of g p.component → Inside g (moved_to (moved_across p x y) (moved_across p x y).component m))
unfolding moved_to n_of next_axis last_axis axis3
moved_across_lem g p x y = go p.component p.i p.j p.k
  where
    go : (a i j k : ℕ)
        → let p : Position = record { component = a; i = i; j = j; k = k } in
        a < 3 → x < n_of g (next_axis a) → y < n_of g (last_axis a)
        → ((moved_across p x y).component < 3) × ((m : ℕ) → m < n_of g a → Inside g (moved_to (moved_across p x y) (moved_across p x y).component m))
    go zero i j k c h v = (c, λ m b. record { c_in = c; i_in = b; j_in = h; k_in = v })
    go (suc zero) i j k c h v = (c, λ m b. record { c_in = c; i_in = v; j_in = b; k_in = h })
    go (suc (suc zero)) i j k c h v = (c, λ m b. record { c_in = c; i_in = h; j_in = v; k_in = b })
    go (suc (suc (suc a))) i j k c h v = absurd (omega arith)

-- ---- a line in a record

pub cells_packed : (es : List ℕ) → (packed es).cells ≡ length es - 1
unfolding packed
cells_packed es = refl

-- ---- as many unknowns as cells ask for

pub unknowns_same : (g h : Grid3d) → g.nx ≡ h.nx → g.ny ≡ h.ny → g.nz ≡ h.nz → unknowns_of g ≡ unknowns_of h
unfolding unknowns_of cells_of
unknowns_same g h e f d = rw (e, f, d)

-- ---- the permittivities that a row reads are those of the lattice's edges

free_low : (l : FullLattice) {b : ℕ} {ts : List Term} → Terms.Low b ts → All (λ c. c < b) (free_of l (columns_of ts))
unfolding free_of
free_low l Terms.none = rw columns_of_nil none
free_low l {b} (Terms.more {t = t} {ts = ts} p u) = rw (columns_of_cons t ts) (go (is_fixed l t.column) (free_low l u))
  where
    go : (fixed : Bool) → All (λ c. c < b) (free_of l (columns_of ts)) → All (λ c. c < b) (cond fixed (free_of l (columns_of ts)) (t.column ∷ free_of l (columns_of ts)))
    go true v = v
    go false v = more p v

pub reads_low : (l : FullLattice) → Limits l.grid → (r : ℕ) → r < unknowns_of l.grid → All (λ c. c < unknowns_of l.grid) (row_reads l r)
unfolding row_reads free_columns_of free_columns
reads_low l limits r low = go (is_fixed l r)
  where
    go : (fixed : Bool) → All (λ c. c < unknowns_of l.grid) (cond fixed [] (r ∷ each (free_columns_of l) (gradient_of l r)))
    go true = none
    go false = more low (all_each_low (free_columns_of l) (λ t b. free_low l (low_divergence l limits t.column b)) (low_gradient l limits r low))
