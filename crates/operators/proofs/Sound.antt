-- A ladder over level 0's relations and any weights' places, the fixed ones dropped, is sound if each live place is reached.
-- Assumes nothing.
use Prim.Native.Nat.{ℕ, ◌<◌}
use mathlib.Core.Path.{◌≡◌, refl}
use mathlib.Core.Bool.{Bool, true, ◌&&◌}
use borrow.Author.Tests.{eq-eqb}
use Rattle.std.proofs.lemmas.Bool.{and_from, and_parts}
use Rattle.operators.specs.Relation.{Rel}
use Rattle.operators.specs.Pattern.{Role, Name, same, near, up, down, row_role, Ladder, Sound}
use Rattle.operators.specs.Base.{live_at, base_of}

-- at level 0 a live place is near and the same as itself, and only live places are related to anything
module _ (n : ℕ) (bloch : Bool) where
  pub base_same : (r : Role) (i : ℕ) → live_at bloch r i ≡ true → base_of n bloch (same r) i i ≡ true
  unfolding base_of
  base_same r i h = and_from _ _ h (eq-eqb i i refl)

  pub base_near : (r : Role) (i : ℕ) → live_at bloch r i ≡ true → base_of n bloch (near r) i i ≡ true
  unfolding base_of
  base_near r i h = and_from _ _ (and_from _ _ h h) (rw (eq-eqb i i refl))

  pub base_live : (w : Name) (i j : ℕ) → base_of n bloch w i j ≡ true → live_at bloch (row_role w) i ≡ true
  unfolding base_of live_at
  base_live (same r) i j h = (and_parts _ _ h).0
  base_live (near r) i j h = (and_parts _ _ (and_parts _ _ h).0).0
  base_live up i j h = refl
  base_live down i j h = (and_parts _ _ h).0

-- n L d: cells; bloch d: the axis' kind; weights L d r: the places that the interpolation gives
module _ (n : ℕ → ℕ → ℕ) (bloch : ℕ → Bool) (weights : ℕ → ℕ → Role → Rel) where
  -- the fixed places dropped
  unfoldable pub dropped : ℕ → ℕ → Role → Rel
  dropped L d r k i = weights L d r k i && (live_at (bloch d) r k && live_at (bloch d) r i)

  abbrev pub ladder : Ladder
  ladder = record { cells = n; base = λ d w. base_of (n 0 d) (bloch d) w; forward = dropped }

  pub sound : ((L d : ℕ) (r : Role) (i : ℕ) → live_at (bloch d) r i ≡ true → (k : ℕ) × (k < n L d) × (dropped L d r k i ≡ true)) → Sound ladder
  unfolding dropped
  sound reached =
      record {
        live = λ L d r i. live_at (bloch d) r i;
        starts = λ L d r k i h. (lives L d r k i h).0;
        ends = λ L d r k i h. (lives L d r k i h).1;
        reached = λ L d r i h. reached L d r i h;
        same_self = λ d. base_same (n 0 d) (bloch d);
        near_self = λ d. base_near (n 0 d) (bloch d);
        only_live = λ d. base_live (n 0 d) (bloch d);
      }
    where
      lives : (L d : ℕ) (r : Role) (k i : ℕ) → (weights L d r k i && (live_at (bloch d) r k && live_at (bloch d) r i)) ≡ true
          → (live_at (bloch d) r k ≡ true) × (live_at (bloch d) r i ≡ true)
      lives L d r k i h = and_parts (live_at (bloch d) r k) (live_at (bloch d) r i) (and_parts (weights L d r k i) (live_at (bloch d) r k && live_at (bloch d) r i) h).1
