use lib.Ieee.{of_bits, neg}
use native.Mathlib.Omega.{arith}
use Rattle.lattice.specs.Curls.{curl_e, curl_e_at}
use Rattle.lattice.proofs.GridLaws.{next_low, last_low}
use Rattle.numbers.proofs.TermLaws.{wrote_append, wrote_most}
use Rattle.lattice.proofs.RowLaws.{at_in, ahead_most}
use Rattle.lattice.proofs.curls.curl_e.Goals as goal

pub ahead-k-requires-clause-inside : goal.ahead-k-requires-clause-inside
ahead-k-requires-clause-inside c = at_in c.args.l.now.limits c.requires c.at-p.ensures

pub ahead-k-requires-clause-along_bound : goal.ahead-k-requires-clause-along_bound
ahead-k-requires-clause-along_bound c = rw c.next_axis-b.ensures (next_low _)

pub ahead-k-requires-clause-field_bound : goal.ahead-k-requires-clause-field_bound
ahead-k-requires-clause-field_bound c = rw c.last_axis-c.ensures (last_low _)

pub ahead-requires-clause-inside : goal.ahead-requires-clause-inside
ahead-requires-clause-inside c = at_in c.args.l.now.limits c.requires c.at-p.ensures

pub ahead-requires-clause-along_bound : goal.ahead-requires-clause-along_bound
ahead-requires-clause-along_bound c = rw c.last_axis-c.ensures (last_low _)

pub ahead-requires-clause-field_bound : goal.ahead-requires-clause-field_bound
ahead-requires-clause-field_bound c = rw c.next_axis-b.ensures (next_low _)

pub ahead-requires-clause-k_bound : goal.ahead-requires-clause-k_bound
ahead-requires-clause-k_bound c = omega (arith, wrote_most c.ahead-k.ensures (ahead_most _ _ _ _ _))

pub returns : goal.returns
unfolding curl_e curl_e_at of_bits neg
returns c =
    rw (
      ← c.at-p.ensures,
      ← c.next_axis-b.ensures,
      ← c.last_axis-c.ensures,
    )
    (wrote_append c.ahead-k.ensures c.ahead.ensures)
