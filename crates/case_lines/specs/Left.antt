-- What of the words of a line is still to come (crates/case_lines/src/words.rt).
-- Assumes nothing.
use Rattle.std.specs.Prelude.{ℕ, List, [], ◌++◌, map, replicate, None, Some}
use Rattle.std.specs.List.{slice_split}
use Rattle.case_lines.specs.declared.words.Word.{Word}
use Rattle.case_lines.specs.declared.words.Words.{Words}
use Rattle.case_lines.specs.declared.words.Numbers.{Numbers}
use Rattle.case_lines.specs.Words.{is_space, word_of, numbers_in}

-- how many times a word stands there, and its text
abbrev pub word_seen : Word → ℕ × List ℕ
word_seen w = (w.times, w.text.now)

-- the words to come
abbrev pub words_left : Words → List (ℕ × List ℕ)
words_left s = elim s.rest [ None ↦ [] | Some line ↦ map word_of (slice_split is_space line.now) ]

-- the numbers to come
abbrev pub numbers_left : Numbers → List ℕ
numbers_left s = replicate s.left s.value ++ numbers_in (words_left s.words)
