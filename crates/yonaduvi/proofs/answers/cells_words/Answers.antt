use Prim.Native.Nat.{◌+◌}
use mathlib.Core.Path.{◌≡◌, refl, sym, ap, ◌∙◌}
use native.Mathlib.Omega.{arith}
use borrow.Author.Rules.{rules}
use native.Mathlib.Numerals.{add-one}
use Rattle.numbers.proofs.TabulateLaws.{filled_start, filled_turn, filled_whole}
use Rattle.yonaduvi.proofs.RowLaws.{word_at, words_whole}
use Rattle.yonaduvi.proofs.answers.cells_words.Goals as goal

pub loop-q-init : goal.loop-q-init
loop-q-init c = (omega arith, search rules, filled_turn filled_start (omega arith) refl)

pub loop-q-preserved : goal.loop-q-preserved
loop-q-preserved c = (omega arith, c.loop-q.invariant.1, filled_turn c.loop-q.invariant.2 (omega arith) (ap (word_at c.args.levels c.args.cells) (sym (add-one c.loop-q.q))))

pub returns : goal.returns
returns c =
    let l = c.loop-q in
    let e : l.q + 1 ≡ 37 = omega arith in
    filled_whole (rw e at l.invariant.2) ∙ words_whole c.args.levels c.args.cells l.invariant.1
