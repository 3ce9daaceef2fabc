-- `renew::renew_operator::sole_part` meets its contract.
-- Assumes nothing.
use Rattle.lattice.specs.Sound.{full}
use Rattle.store.proofs.PartRowLaws.{sole_ready, sole_done}
use Rattle.renew.proofs.renew_operator.sole_part.Goals as goal

pub stencil_rows-requires-clause-stencil_rule : goal.stencil_rows-requires-clause-stencil_rule
stencil_rows-requires-clause-stencil_rule c = (sole_ready (full c.args.l.now) c.args.choice c.args.l.now.limits c.args.eps.now c.args.ovalues.now c.unknowns-n.ensures c.requires.st_in_bounds c.requires.operator_starts c.requires.choice_in_bounds c.requires.part_flags).1.0

pub stencil_rows-requires-clause-from_bound : goal.stencil_rows-requires-clause-from_bound
stencil_rows-requires-clause-from_bound c = (sole_ready (full c.args.l.now) c.args.choice c.args.l.now.limits c.args.eps.now c.args.ovalues.now c.unknowns-n.ensures c.requires.st_in_bounds c.requires.operator_starts c.requires.choice_in_bounds c.requires.part_flags).1.1.0

pub stencil_rows-requires-clause-operator_starts : goal.stencil_rows-requires-clause-operator_starts
stencil_rows-requires-clause-operator_starts c = (sole_ready (full c.args.l.now) c.args.choice c.args.l.now.limits c.args.eps.now c.args.ovalues.now c.unknowns-n.ensures c.requires.st_in_bounds c.requires.operator_starts c.requires.choice_in_bounds c.requires.part_flags).1.1.1.0

pub stencil_rows-requires-clause-level_in_bounds : goal.stencil_rows-requires-clause-level_in_bounds
stencil_rows-requires-clause-level_in_bounds c = (sole_ready (full c.args.l.now) c.args.choice c.args.l.now.limits c.args.eps.now c.args.ovalues.now c.unknowns-n.ensures c.requires.st_in_bounds c.requires.operator_starts c.requires.choice_in_bounds c.requires.part_flags).1.1.1.1.0

pub stencil_rows-requires-clause-n_value : goal.stencil_rows-requires-clause-n_value
stencil_rows-requires-clause-n_value c = (sole_ready (full c.args.l.now) c.args.choice c.args.l.now.limits c.args.eps.now c.args.ovalues.now c.unknowns-n.ensures c.requires.st_in_bounds c.requires.operator_starts c.requires.choice_in_bounds c.requires.part_flags).1.1.1.1.1

pub returns : goal.returns
returns c = sole_done (full c.args.l.now) c.args.choice c.args.flags.now c.unknowns-n.ensures c.stencil_rows.ensures
