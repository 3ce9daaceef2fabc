-- `weights::whole::transfer` meets its contract.
-- Assumes nothing.
use mathlib.Core.Path.{ap, ◌∙◌}
use Rattle.lattice.specs.Grid.{unknowns_of}
use Rattle.weights.proofs.TwoLevelLaws.{fine_grid_lem, coarse_grid_lem}
use Rattle.weights.proofs.WholeLaws.{fine_limited, coarse_limited, turn_ready, whole_left, finite_both, finite_not}
use Rattle.weights.proofs.whole.transfer.Goals as goal

pub unknowns-n-requires : goal.unknowns-n-requires
unknowns-n-requires c = fine_limited c.args.pair.now.paired c.grid_of-gf.ensures

pub unknowns-m-requires : goal.unknowns-m-requires
unknowns-m-requires c = coarse_limited c.args.pair.now.paired c.grid_of-gc.ensures

pub transpose-requires-clause-stored : goal.transpose-requires-clause-stored
transpose-requires-clause-stored c = (turn_ready c.args.pair.now.paired c.requires.whole_room c.columns.ensures.starts_after c.columns.ensures.laid (c.unknowns-n.ensures ∙ ap unknowns_of (c.grid_of-gf.ensures ∙ fine_grid_lem _ _ _ c.args.pair.now.paired.fine_held)) (c.unknowns-m.ensures ∙ ap unknowns_of (c.grid_of-gc.ensures ∙ coarse_grid_lem _ _ _ c.args.pair.now.paired.coarse_held)) _ c.weights-b.ensures.values_after).0

pub transpose-requires-clause-room : goal.transpose-requires-clause-room
transpose-requires-clause-room c = (turn_ready c.args.pair.now.paired c.requires.whole_room c.columns.ensures.starts_after c.columns.ensures.laid (c.unknowns-n.ensures ∙ ap unknowns_of (c.grid_of-gf.ensures ∙ fine_grid_lem _ _ _ c.args.pair.now.paired.fine_held)) (c.unknowns-m.ensures ∙ ap unknowns_of (c.grid_of-gc.ensures ∙ coarse_grid_lem _ _ _ c.args.pair.now.paired.coarse_held)) _ c.weights-b.ensures.values_after).1

pub returns-then-a-clause-whole_left : goal.returns-then-a-clause-whole_left
returns-then-a-clause-whole_left c = whole_left c.args.pair.now.paired c.requires.whole_room c.columns.ensures.starts_after c.columns.ensures.laid (c.unknowns-n.ensures ∙ ap unknowns_of (c.grid_of-gf.ensures ∙ fine_grid_lem _ _ _ c.args.pair.now.paired.fine_held)) (c.unknowns-m.ensures ∙ ap unknowns_of (c.grid_of-gc.ensures ∙ coarse_grid_lem _ _ _ c.args.pair.now.paired.coarse_held)) c.coarse_eps-a.ensures.eps_after c.weights-b.ensures.values_after c.transpose.ensures

pub returns-then-a-clause-value : goal.returns-then-a-clause-value
returns-then-a-clause-value c = finite_both c.args.pair.now.paired c.requires.whole_room c.coarse_eps-a.ensures.eps_after c.coarse_eps-a.ensures.value c.weights-b.ensures.value c.if-a.true

pub returns-else-a-clause-whole_left : goal.returns-else-a-clause-whole_left
returns-else-a-clause-whole_left c = whole_left c.args.pair.now.paired c.requires.whole_room c.columns.ensures.starts_after c.columns.ensures.laid (c.unknowns-n.ensures ∙ ap unknowns_of (c.grid_of-gf.ensures ∙ fine_grid_lem _ _ _ c.args.pair.now.paired.fine_held)) (c.unknowns-m.ensures ∙ ap unknowns_of (c.grid_of-gc.ensures ∙ coarse_grid_lem _ _ _ c.args.pair.now.paired.coarse_held)) c.coarse_eps-a.ensures.eps_after c.weights-b.ensures.values_after c.transpose.ensures

pub returns-else-a-clause-value : goal.returns-else-a-clause-value
returns-else-a-clause-value c = finite_not c.args.pair.now.paired c.requires.whole_room c.coarse_eps-a.ensures.eps_after c.coarse_eps-a.ensures.value c.if-a.false
