use Rattle.lattice.specs.Rows.{face_term}
use Rattle.numbers.proofs.TermLaws.{wrote_none}
use Rattle.lattice.proofs.rows.push_face_term.Goals as goal

pub returns-then-fixed : goal.returns-then-fixed
unfolding face_term
returns-then-fixed c = rw (← c.fixed.ensures, c.if-fixed.true) wrote_none

pub returns : goal.returns
unfolding face_term
returns c =
    rw (
      ← c.fixed.ensures,
      c.if-fixed.false,
      ← c.neg.ensures,
      ← c.mul.ensures,
    ) c.push.ensures
