-- The words of a line, one after another.
use Rattle.std.proofs.Common.{◌≡◌, ◌<◌, ℕ, List, [], ◌∷◌, length, map, drop, arith, sym, ap}
use Rattle.std.specs.List.{slice_split, before_first, after_first, position_or_len}
use Rattle.std.proofs.lemmas.List.Splits.{slice_split_first, slice_split_none}
use Rattle.std.proofs.lemmas.List.Sums.{fails_before_first}
use Rattle.case_lines.specs.Words.{is_space, word_of, words_of}

-- where there is a space, the first word ends at it
pub words-more : (line : List ℕ) → position_or_len is_space line < length line
    → map word_of (slice_split is_space line) ≡ word_of (before_first is_space line) ∷ map word_of (slice_split is_space (after_first is_space line))
words-more line h = ap (map word_of) (slice_split_first is_space line 0 h)

-- and else the line is one word
pub words-one : (line : List ℕ) → position_or_len is_space line ≡ length line
    → map word_of (slice_split is_space line) ≡ word_of line ∷ []
words-one line h = ap (map word_of) (slice_split_none is_space line (λ k e m. fails_before_first is_space line k e (omega arith)))

-- the words behind the first
pub words-behind : (line : List ℕ) → position_or_len is_space line < length line → map word_of (slice_split is_space (after_first is_space line)) ≡ words_of line
words-behind line h = ap (λ ws. map word_of (drop 1 ws)) (sym (slice_split_first is_space line 0 h))

pub words-none : (line : List ℕ) → position_or_len is_space line ≡ length line → [] ≡ words_of line
words-none line h = ap (λ ws. map word_of (drop 1 ws)) (sym (slice_split_none is_space line (λ k e m. fails_before_first is_space line k e (omega arith))))
