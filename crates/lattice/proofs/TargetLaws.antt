-- The target of a level is exact: 3 2^L for each of the 12 levels, and its square 9 4^L, so that the joining test compares with the square itself.
-- Assumes nothing.
use Prim.Native.Nat.{ℕ, ◌*◌, ◌^◌, ◌≤◌, ◌<◌}
use mathlib.Core.Path.{◌≡◌}
use mathlib.Core.Bool.{false}
use native.Mathlib.Nat.{le_trans, mul-le-mul_left, pow-le-pow_right}
use native.Mathlib.Omega.{arith}
use lib.Dec.{lit≤}
use lib.IntN.{pos}
use lib.Ieee.{Float, binary64, of_bits, of_int, mul}
use lib.Ieee.Exact.{HasValue}
use lib.Ieee.Back.{round_whole}
use Rattle.numbers.specs.Complex.{mul_f}
use Rattle.numbers.specs.Lists.{tabulate}
use Rattle.lattice.specs.Levels.{target}
use Rattle.numbers.proofs.TabulateLaws.{tabulated, tabulate_twelve}

-- ---- the target and its square

abbrev triple : ℕ → Float
triple L = of_int binary64 (pos (3 * 2 ^ L))

abbrev ninefold : ℕ → Float
ninefold L = of_int binary64 (pos (9 * 4 ^ L))

abbrev pub squared : ℕ → Float
squared L = mul_f (target L) (target L)

target_table : tabulate target 12 0 ≡ tabulate triple 12 0
unfolding target of_bits of_int mul
target_table = rw (tabulate_twelve target, tabulate_twelve triple)

square_table : tabulate squared 12 0 ≡ tabulate ninefold 12 0
unfolding target of_bits of_int mul
square_table = rw (tabulate_twelve squared, tabulate_twelve ninefold)

pub target_exact : (L : ℕ) → L < 12 → target L ≡ of_int binary64 (pos (3 * 2 ^ L))
target_exact L h = tabulated target triple 12 0 target_table L L h (omega arith)

pub square_exact : (L : ℕ) → L < 12 → mul_f (target L) (target L) ≡ of_int binary64 (pos (9 * 4 ^ L))
square_exact L h = tabulated squared ninefold 12 0 square_table L L h (omega arith)

-- ---- so as numbers: `HasValue x s a c` says that x is finite with the sign s and is a / c in size

small : (a b L : ℕ) → 0 < b → L < 12 → a * b ^ 11 ≤ 2 ^ 53 → a * b ^ L ≤ 2 ^ 53
small a b L B h k = le_trans (mul-le-mul_left a (pow-le-pow_right B (omega arith))) k

pub target_value : (L : ℕ) → L < 12 → HasValue (target L) false (3 * 2 ^ L) 1
unfolding of_int
target_value L h = rw (target_exact L h) (round_whole binary64 false (3 * 2 ^ L) (small 3 2 L (lit≤ tt) h (lit≤ tt)))

pub square_value : (L : ℕ) → L < 12 → HasValue (mul_f (target L) (target L)) false (9 * 4 ^ L) 1
unfolding of_int
square_value L h = rw (square_exact L h) (round_whole binary64 false (9 * 4 ^ L) (small 9 4 L (lit≤ tt) h (lit≤ tt)))
