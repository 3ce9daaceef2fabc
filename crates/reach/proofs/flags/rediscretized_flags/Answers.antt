-- `reach::flags::rediscretized_flags` meets its contract.
-- Assumes nothing.
use Rattle.operators.proofs.RediscretizedLists.{own_lattice}
use Rattle.store.proofs.PassLaws.{own_held, own_tame, own_asked, own_raised}
use Rattle.reach.proofs.flags.rediscretized_flags.Goals as goal

pub rediscretized_lattice-lattice-requires-clause-held_three : goal.rediscretized_lattice-lattice-requires-clause-held_three
rediscretized_lattice-lattice-requires-clause-held_three c = own_held _ c.args.h.now.l.limits _ c.args.h.now.has_lines c.requires.level_lt_m c.three-s.ensures

pub rediscretized_stretches-stretches-requires-clause-held_three : goal.rediscretized_stretches-stretches-requires-clause-held_three
rediscretized_stretches-stretches-requires-clause-held_three c = own_held _ c.args.h.now.l.limits _ c.args.h.now.has_lines c.requires.level_lt_m c.three-s.ensures

pub rediscretized_stretches-stretches-requires-clause-tame : goal.rediscretized_stretches-stretches-requires-clause-tame
rediscretized_stretches-stretches-requires-clause-tame c = own_tame _ c.args.h.now.l.limits _ c.args.h.now.has_lines c.requires.level_lt_m c.three-s.ensures

pub invariant_of-own : goal.invariant_of-own
invariant_of-own c = record { limits = (own_asked _ c.args.h.now.l.limits _ c.args.h.now.has_lines c.requires.level_lt_m c.three-s.ensures (own_lattice _ _ _ _ c.rediscretized_lattice-lattice.ensures c.rediscretized_stretches-stretches.ensures.result_value) c.args.out.now c.requires.level_in_bounds).0 }

pub lattice_flags-requires : goal.lattice_flags-requires
lattice_flags-requires c = (own_asked _ c.args.h.now.l.limits _ c.args.h.now.has_lines c.requires.level_lt_m c.three-s.ensures (own_lattice _ _ _ _ c.rediscretized_lattice-lattice.ensures c.rediscretized_stretches-stretches.ensures.result_value) c.args.out.now c.requires.level_in_bounds).1

pub returns : goal.returns
returns c = own_raised _ c.args.h.now.l.limits _ c.args.h.now.has_lines c.requires.level_lt_m c.three-s.ensures (own_lattice _ _ _ _ c.rediscretized_lattice-lattice.ensures c.rediscretized_stretches-stretches.ensures.result_value) c.lattice_flags.ensures
