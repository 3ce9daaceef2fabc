use native.Mathlib.Omega.{arith}
use Rattle.lattice.specs.Curls.{divergence_of}
use Rattle.numbers.proofs.TermLaws.{wrote_append, wrote_most}
use Rattle.lattice.proofs.RowLaws.{at_in, behind_most}
use Rattle.lattice.proofs.curls.divergence.Goals as goal

pub behind-k-requires-clause-inside : goal.behind-k-requires-clause-inside
behind-k-requires-clause-inside c = at_in c.args.l.now.limits c.requires c.at-p.ensures

pub behind-k1-requires-clause-inside : goal.behind-k1-requires-clause-inside
behind-k1-requires-clause-inside c = at_in c.args.l.now.limits c.requires c.at-p.ensures

pub behind-k1-requires-clause-k_bound : goal.behind-k1-requires-clause-k_bound
behind-k1-requires-clause-k_bound c = omega (arith, wrote_most c.behind-k.ensures (behind_most _ _ _ _ _))

pub behind-requires-clause-inside : goal.behind-requires-clause-inside
behind-requires-clause-inside c = at_in c.args.l.now.limits c.requires c.at-p.ensures

pub behind-requires-clause-k_bound : goal.behind-requires-clause-k_bound
behind-requires-clause-k_bound c = omega (
  arith,
  wrote_most c.behind-k.ensures (behind_most _ _ _ _ _),
  wrote_most c.behind-k1.ensures (behind_most _ _ _ _ _),
)

pub returns : goal.returns
unfolding divergence_of
returns c =
    rw
    (← c.at-p.ensures)
    (wrote_append
    c.behind-k.ensures
    (wrote_append c.behind-k1.ensures
    c.behind.ensures))
