use Rattle.std.proofs.Common.{rules}
use Rattle.weights.proofs.TableLaws.{made_tabulate}
use Rattle.operators.specs.Levels.{slot_no, slot_word_no}
use Rattle.operators.proofs.pattern.forward_words.Goals as goal

pub returns : goal.returns
unfolding slot_word_no slot_no
returns c = made_tabulate (slot_word_no c.args.ps.now c.args.ns.now) 384 0 c.from_fn.result c.from_fn.ensures.items (λ i y q b k. search rules)
