use Rattle.std.proofs.Common.{arith}
use Rattle.std.proofs.lemmas.Grind.{common_steps}
use Rattle.case_lines.proofs.WordLaws.{words-behind, words-none}
use Rattle.case_lines.proofs.words.Words.new.Goals as goal

pub returns : goal.returns
returns c = grind (arith, common_steps, words-behind, words-none)
