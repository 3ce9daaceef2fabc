use Rattle.lattice.specs.Curls.{term_here}
use Rattle.lattice.proofs.RowLaws.{with_in}
use Rattle.lattice.proofs.curls.push_here.Goals as goal

pub index-here-requires-clause-inside : goal.index-here-requires-clause-inside
index-here-requires-clause-inside c = with_in c.requires.inside c.requires.component_bound c.with_component.ensures

pub returns : goal.returns
unfolding term_here
returns c =
    rw (← c.with_component.ensures, ← c.index-here.ensures)
    c.push.ensures
