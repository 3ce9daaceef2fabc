-- `renew::guard::renew_or_restore` meets its contract.
-- Assumes nothing.
use mathlib.Core.Path.{refl}
use Rattle.store.specs.Lists.{fixed_of}
use Rattle.store.proofs.GuardLaws.{guard_whole}
use Rattle.store.proofs.MarkLaws.{whole_fits, whole_cells, whole_in}
use Rattle.renew.proofs.guard.renew_or_restore.Goals as goal

pub invariant_of-w : goal.invariant_of-w
invariant_of-w c = record { fits = whole_fits _ c.args.h.now.l.limits _ _ c.args.h.now.few _ c.requires.shaped _ _ c.set_shape.ensures _ refl c.requires.m_bound }

pub guard-requires-clause-ready : goal.guard-requires-clause-ready
guard-requires-clause-ready c =
    record {
      shaped = c.requires.shaped;
      room = c.requires.five_room;
      flags_long = c.requires.m_bound;
      no_volumes = c.requires.no_volumes;
    }

pub guard-requires-clause-cells_fit : goal.guard-requires-clause-cells_fit
guard-requires-clause-cells_fit c = whole_cells _ c.args.h.now.l.limits _ _ c.args.h.now.few _ c.requires.shaped _ _ c.set_shape.ensures _ refl _ c.requires.five_room

pub guard-requires-clause-cursor_in : goal.guard-requires-clause-cursor_in
guard-requires-clause-cursor_in c = c.find-c.ensures.within

pub returns-clause-same : goal.returns-clause-same
returns-clause-same c = c.guard.ensures.same

pub returns-clause-long : goal.returns-clause-long
returns-clause-long c = c.guard.ensures.long

pub returns-clause-restored : goal.returns-clause-restored
returns-clause-restored c =
    let x = fixed_of c.args.s.now in
    guard_whole _ _ _ x _ _ _ _ _ (whole_in _ c.args.h.now.l.limits _ _ c.args.h.now.few x c.requires.shaped _ _ c.set_shape.ensures _ refl c.find-c.result c.find-c.ensures) c.guard.ensures.guarded
