-- A number's place in a list of doubles (docs/SPECIFICATION.md, 1): number k has its real part at 2k and its imaginary part behind it.
-- An odd double at the list's end is no place.
-- Assumes nothing.
use Rattle.std.specs.Prelude.{ℕ, ◌+◌, ◌*◌, ◌/◌, List, cond, ltb, length, get_or, set, Float}
use Rattle.std.specs.Float.{nan}
use Rattle.numbers.specs.declared.C64.{C64}
use Rattle.numbers.specs.Complex.{no_number}

-- how many numbers the list holds
unfoldable pub places : List Float → ℕ
places xs = length xs / 2

unfoldable pub number_at : List Float → ℕ → C64
number_at xs k = record { re = get_or xs (2 * k) nan; im = get_or xs (2 * k + 1) nan }

-- the list with v as its number k; unchanged where it has no such place
unfoldable pub set_number : List Float → ℕ → C64 → List Float
set_number xs k v = cond (ltb k (length xs / 2)) (set (set xs (2 * k) v.re) (2 * k + 1) v.im) xs

-- number k of the list; none where it has no such place
unfoldable pub found_at : List Float → ℕ → C64
found_at xs k = cond (ltb k (length xs / 2)) (number_at xs k) no_number
