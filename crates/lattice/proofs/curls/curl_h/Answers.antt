use lib.Ieee.{of_bits, neg}
use native.Mathlib.Omega.{arith}
use Rattle.lattice.specs.Curls.{curl_h, curl_h_at}
use Rattle.lattice.proofs.GridLaws.{next_low, last_low}
use Rattle.numbers.proofs.TermLaws.{wrote_append, wrote_most}
use Rattle.lattice.proofs.RowLaws.{at_in, behind_most}
use Rattle.lattice.proofs.curls.curl_h.Goals as goal

pub behind-k-requires-clause-inside : goal.behind-k-requires-clause-inside
behind-k-requires-clause-inside c = at_in c.args.l.now.limits c.requires c.at-p.ensures

pub behind-k-requires-clause-along_bound : goal.behind-k-requires-clause-along_bound
behind-k-requires-clause-along_bound c = rw c.next_axis-b.ensures (next_low _)

pub behind-k-requires-clause-field_bound : goal.behind-k-requires-clause-field_bound
behind-k-requires-clause-field_bound c = rw c.last_axis-c.ensures (last_low _)

pub behind-requires-clause-inside : goal.behind-requires-clause-inside
behind-requires-clause-inside c = at_in c.args.l.now.limits c.requires c.at-p.ensures

pub behind-requires-clause-along_bound : goal.behind-requires-clause-along_bound
behind-requires-clause-along_bound c = rw c.last_axis-c.ensures (last_low _)

pub behind-requires-clause-field_bound : goal.behind-requires-clause-field_bound
behind-requires-clause-field_bound c = rw c.next_axis-b.ensures (next_low _)

pub behind-requires-clause-k_bound : goal.behind-requires-clause-k_bound
behind-requires-clause-k_bound c = omega (arith, wrote_most c.behind-k.ensures (behind_most _ _ _ _ _))

pub returns : goal.returns
unfolding curl_h curl_h_at of_bits neg
returns c =
    rw (
      ← c.at-p.ensures,
      ← c.next_axis-b.ensures,
      ← c.last_axis-c.ensures,
    )
    (wrote_append c.behind-k.ensures c.behind.ensures)
