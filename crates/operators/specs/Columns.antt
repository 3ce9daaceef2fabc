-- The sorted columns of a row, in the order of the scans (docs/SPECIFICATION.md, 9).
-- Assumes nothing.
use Rattle.std.specs.Prelude.{ℕ, zero, suc, ◌+◌, ◌*◌, ◌≡◌, List, [], ◌∷◌, ◌++◌, Bool, true, false, ◌&&◌, ◌||◌, length}
use Rattle.std.proofs.lemmas.List.Edits.{sets}
use Rattle.operators.specs.Bits.{bit_at, mix_of}
use Rattle.operators.specs.declared.columns.Picks.{Picks}

-- v before the rest, if it is taken
abbrev pub keep : Bool → ℕ → List ℕ → List ℕ
keep true v vs = v ∷ vs
keep false v vs = vs

-- the n places from i on of the set w, counted from base
unfoldable pub line : ℕ → ℕ → ℕ → ℕ → List ℕ
line w base zero i = []
line w base (suc n) i = keep (bit_at w i) (base + i) (line w base n (suc i))

-- the n lines from j on, nx places each, the first at start: the places of t where a has j, and those of s where b has j
unfoldable pub plane : ℕ → ℕ → ℕ → ℕ → ℕ → ℕ → ℕ → ℕ → List ℕ
plane s t a b nx start zero j = []
plane s t a b nx start (suc n) j = line (mix_of (bit_at a j) t (bit_at b j) s) start nx 0 ++ plane s t a b nx (start + nx) n (suc j)

-- the n planes from k on, of ny lines each
unfoldable pub block : Picks → ℕ → ℕ → ℕ → ℕ → ℕ → List ℕ
block p nx ny start zero k = []
block p nx ny start (suc n) k =
    plane p.sx p.tx (mix_of (bit_at p.sz k) p.sy false 0) (mix_of (bit_at p.sz k) p.ty (bit_at p.tz k) p.sy) nx start ny 0
    ++ block p nx ny (start + nx * ny) n (suc k)

-- the columns of components 0, 1 and 2
unfoldable pub row : Picks → Picks → Picks → ℕ → ℕ → ℕ → List ℕ
unfolding block
row x y z nx ny nz = block x nx ny 0 nz 0 ++ (block y nx ny (nx * ny * nz) nz 0 ++ block z nx ny (2 * (nx * ny * nz)) nz 0)

-- is the place i, j, k picked: near on one axis and the same on the others
unfoldable pub picked : Picks → ℕ → ℕ → ℕ → Bool
picked p k j i =
    ((bit_at p.sz k && bit_at p.sy j) && bit_at p.tx i)
    || (((bit_at p.sz k && bit_at p.ty j) || (bit_at p.tz k && bit_at p.sy j)) && bit_at p.sx i)

-- the number of an edge, its component's first being base
unfoldable pub number : ℕ → ℕ → ℕ → ℕ → ℕ → ℕ → ℕ
number nx ny base k j i = base + ((k * ny + j) * nx + i)

-- ys is xs with the columns laid over it from at on, and r is the place behind them
pub record Listed (xs : List ℕ) (at : ℕ) (columns ys : List ℕ) (r : ℕ) : Type 0 where
  pub list : ys ≡ sets xs at columns
  pub next : r ≡ at + length columns
