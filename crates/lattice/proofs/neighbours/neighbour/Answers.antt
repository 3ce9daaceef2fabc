use mathlib.Core.Path.{◌∙◌, sym, ap}
use Rattle.lattice.specs.Neighbours.{to_place, arrived}
use Rattle.lattice.proofs.NeighbourLaws.{step_inside, neighbour_is}
use Rattle.lattice.proofs.GridLaws.{place_inside}
use Rattle.lattice.specs.Grid.{index_of}
use Rattle.lattice.specs.Sound.{full}
use Rattle.lattice.proofs.neighbours.neighbour.Goals as goal

pub shift-requires : goal.shift-requires
shift-requires c =
    rw (c.place_on.ensures, c.n.ensures)
    (place_inside c.requires c.args.axis)

pub index-requires-clause-inside : goal.index-requires-clause-inside
index-requires-clause-inside c = rw c.moved_to.ensures
    (step_inside _ _ _
    c.requires
    c.n.ensures
    c.place_on.ensures
    c.shift.ensures
    c.in_ok-to.was)

pub returns-in_err-to : goal.returns-in_err-to
returns-in_err-to c =
    c.from_residual.ensures
    ∙ sym (ap (arrived (full c.args.l.now) c.args.p c.args.axis) c.in_err-to.was)
    ∙ neighbour_is _ _ _ _
    c.edges_on-e.ensures
    c.n.ensures
    c.place_on.ensures
    c.shift.ensures

pub returns : goal.returns
returns c =
    c.to_place.ensures
    ∙ ap (λ q. to_place q c.in_ok-to.to.phase)
    (c.index.ensures ∙ ap (index_of c.args.l.now.lattice.grid) c.moved_to.ensures)
    ∙ sym (ap (arrived (full c.args.l.now) c.args.p c.args.axis) c.in_ok-to.was)
    ∙ neighbour_is _ _ _ _
    c.edges_on-e.ensures
    c.n.ensures
    c.place_on.ensures
    c.shift.ensures
