use native.Mathlib.Omega.{arith}
use Rattle.lattice.specs.Rows.{row_into}
use Rattle.numbers.proofs.TermLaws.{wrote_append, wrote_most}
use Rattle.lattice.proofs.RowLaws.{curl_curl_most}
use Rattle.lattice.proofs.rows.row_into.Goals as goal

pub returns-then-fixed : goal.returns-then-fixed
unfolding row_into
returns-then-fixed c =
    rw (
      ← c.fixed.ensures,
      c.if-fixed.true,
      ← c.one.ensures,
    ) c.push.ensures

pub grad_div_into-requires-clause-k_bound : goal.grad_div_into-requires-clause-k_bound
grad_div_into-requires-clause-k_bound c = omega (
  arith,
  c.push-k.ensures.next,
  wrote_most c.curl_curl_into-k1.ensures (curl_curl_most _ _),
)

pub returns : goal.returns
unfolding row_into
returns c =
    rw (
      ← c.fixed.ensures,
      c.if-fixed.false,
      ← c.get.ensures,
      ← c.mul-d.ensures,
    )
    (wrote_append
    c.push-k.ensures
    (wrote_append c.curl_curl_into-k1.ensures
    c.grad_div_into.ensures))
