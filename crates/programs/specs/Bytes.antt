-- Numbers out of bytes, the low byte first (docs/SPECIFICATION.md, 13).
-- Assumes nothing.
use Rattle.std.specs.Prelude.{ℕ, ◌+◌, ◌*◌, cond, List, get_or, Float}
use Rattle.std.specs.Float.{nan, binary64}
use Rattle.std.specs.Float.Ieee.{nan_bits, of_bits}
use Rattle.numbers.specs.declared.C64.{C64}

-- two, four and eight bytes from place k on
unfoldable pub word16 : List ℕ → ℕ → ℕ
word16 bs k = get_or bs k 0 + 256 * get_or bs (k + 1) 0

unfoldable pub word32 : List ℕ → ℕ → ℕ
word32 bs k = word16 bs k + 65536 * word16 bs (k + 2)

unfoldable pub word64 : List ℕ → ℕ → ℕ
word64 bs k = word32 bs k + 0x1_0000_0000 * word32 bs (k + 4)

-- the double of a pattern; the pattern of a NaN, whatever it carries, is the one NaN
unfoldable pub double_of : ℕ → Float
double_of bits = cond (nan_bits binary64 bits) nan (of_bits binary64 bits)

unfoldable pub double_at : List ℕ → ℕ → Float
double_at bs k = double_of (word64 bs k)

-- real part, then imaginary part
unfoldable pub pair_at : List ℕ → ℕ → C64
pair_at bs k = record { re = double_at bs k; im = double_at bs (k + 8) }
