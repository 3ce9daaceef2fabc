-- The words of a line of a test file (crates/case_lines/src/words.rt).
-- Assumes nothing.
use Rattle.std.specs.Prelude.{ℕ, ◌+◌, ◌-◌, ◌*◌, ◌%◌, ◌^◌, ◌==◌, ◌++◌, Bool, not, nat_le, nat_lt, max, bit_or, if◌then◌else◌, List, take, drop, fold, map, length, replicate}
use Rattle.std.specs.List.{slice_split, before_last, after_last, suffix_len, flat_map}

-- between two words
abbrev pub is_space : ℕ → Bool
is_space b = b == 32

-- behind how many times a word stands there
abbrev pub is_star : ℕ → Bool
is_star b = b == 42

-- what a hexadecimal digit stands for; any other byte stands for eight bits too
abbrev pub digit : ℕ → ℕ
digit b = if nat_le b 57 then (b + (2 ^ 8 - 48)) % 2 ^ 8 else (b + (2 ^ 8 - 87)) % 2 ^ 8

-- what hexadecimal digits say, in 64 bits: each four bits further on, laid over what stands there
abbrev pub number_of : List ℕ → ℕ
number_of digits = fold (λ v b. bit_or ((v * 16) % 2 ^ 64) (digit b)) 0 digits

-- how many times a word stands there, and its text: N*W is N times W. Of several `*` the last counts, and what stands between it and the one before
abbrev pub word_of : List ℕ → ℕ × List ℕ
word_of word =
    if nat_lt (suffix_len (λ b. not (is_star b)) word) (length word)
    then (max (number_of (after_last is_star (before_last is_star word))) 1, after_last is_star word)
    else (1, word)

-- the words of a line behind its first
abbrev pub words_of : List ℕ → List (ℕ × List ℕ)
words_of line = map word_of (drop 1 (slice_split is_space line))

-- the numbers that such words stand for
abbrev pub numbers_in : List (ℕ × List ℕ) → List ℕ
numbers_in words = flat_map (λ w. replicate w.0 (number_of w.1)) words

-- a list with numbers laid over its front
abbrev pub laid : List ℕ → List ℕ → List ℕ
laid numbers list = take (length list) numbers ++ drop (length numbers) list
