-- How numbers are printed and what goes into a digest (crates/case_lines/src/shown.rt).
-- Assumes nothing.
use Rattle.std.specs.Prelude.{ℕ, ◌+◌, ◌%◌, ◌^◌, ◌-◌, ◌==◌, List, [], ◌++◌, fold, length, codes, to_bits, false, if◌then◌else◌, Option, Float}
use Rattle.std.specs.Option.{option_map}
use Rattle.std.specs.Int.{w64, rotate_left}
use Rattle.std.specs.Fmt.{decimal, digits}
use Rattle.std.specs.Float.{binary64}
use Rattle.numbers.specs.Complex.{finite_double}
use Rattle.case_lines.specs.declared.shown.TheConstants.{MARK}
use Rattle.case_lines.specs.declared.shown.Shown.{Shown}
use Rattle.case_lines.specs.declared.shown.Shown.TheVariants.{Word, Bits}

abbrev pub bits_of : Shown → ℕ
bits_of (Word n) = n
bits_of (Bits n) = n

-- a word in decimal, the bits of a double in hexadecimal, the mark as `-`
abbrev pub text_of : Shown → List ℕ
text_of (Word n) = if n == MARK then codes "-" else decimal n
text_of (Bits n) = if n == MARK then codes "-" else digits 16 false n

-- a space, how many times in a row unless it is once, and what
abbrev pub times_text : ℕ → Option (List ℕ) → Option (List ℕ)
times_text n text = option_map (λ bytes. codes " " ++ (if n == 1 then [] else decimal n ++ codes "*") ++ bytes) text

-- the bits of a double, and one pattern for those that are not finite
abbrev pub double_shown : Float → Shown
double_shown x = Bits (if finite_double x then to_bits binary64 x else 2 ^ 64 - 1)

abbrev pub mixed : ℕ → ℕ → ℕ
mixed digest x = (rotate_left w64 digest 7 + x) % 2 ^ 64

-- a digest with that of a list behind it: its length, and then what it holds
abbrev pub digest_of : {A : Type 0} → (A → Shown) → ℕ → List A → ℕ
digest_of shown first list = fold (λ d x. mixed d (bits_of (shown x))) (mixed first (length list)) list
