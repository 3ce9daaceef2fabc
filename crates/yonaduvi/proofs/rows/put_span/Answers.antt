-- `yonaduvi::rows::put_span` meets its contract.
-- Assumes nothing.
use Prim.Native.Nat.{◌-◌, ◌≤◌}
use native.Mathlib.Omega.{arith}
use native.Mathlib.Nat.{mul-le-mul, le_refl}
use Rattle.yonaduvi.proofs.rows.put_span.Goals as goal

pub overflow_mul-k : goal.overflow_mul-k
overflow_mul-k c = let w = c.requires.held _ _ c.in-Some.is in omega (arith, w.1, mul-le-mul (le_refl c.args.k) w.0)

pub overflow_sub-j : goal.overflow_sub-j
overflow_sub-j c = (c.requires.held _ _ c.in-Some.is).0

pub overflow_mul-k-in-Some : goal.overflow_mul-k-in-Some
overflow_mul-k-in-Some c =
    let w = c.requires.held _ _ c.in-Some.is in
    let h : c.in-Some.j - c.in-Some.i ≤ c.in-Some.j = omega arith in
    omega (arith, w.1, mul-le-mul (le_refl c.args.k) h)

pub returns-in-Some : goal.returns-in-Some
returns-in-Some c = rw c.in-Some.is c.put_two.ensures

pub returns-in-None : goal.returns-in-None
returns-in-None c = rw c.in-None.is c.put_two-in-None.ensures
