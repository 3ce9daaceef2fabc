-- `renew::parts::eps_parts` meets its contract. The averaged part follows in a rediscretized store only.
-- Assumes nothing.
use Rattle.store.specs.Hierarchy.{the_lattice}
use Rattle.std.proofs.lemmas.Result.{err_from_is_err_and}
use mathlib.Core.Path.{refl}
use lib.ListN.{length}
use native.Mathlib.Omega.{arith}
use Rattle.store.proofs.LevelParts.{flags_0, eps_stop, eps_galerkin, eps_rediscretized, averaged_ready}
use Prim.Native.Nat.{◌+◌}
use Rattle.operators.proofs.RangeLaws.{edges_few}
use Rattle.renew.proofs.parts.eps_parts.Goals as goal

pub coarse_part-requires-clause-part_flags : goal.coarse_part-requires-clause-part_flags
coarse_part-requires-clause-part_flags c = flags_0 (the_lattice c.args.h.now) c.args.h.now.l.limits c.args.choice c.args.h.now.m c.args.level (c.requires.level_lt_m, c.args.h.now.few) c.requires.w_value c.args.flags.now c.requires.m_bound

pub returns-in_err-coarse_part : goal.returns-in_err-coarse_part
returns-in_err-coarse_part c =
    let p = err_from_is_err_and c.from_residual.result c.from_residual.ensures.1 in
    rw (p.1, p.2) (eps_stop c.args.level c.args.flags.now (λ q. omega (arith, q)) c.in_err-coarse_part.ensures)

pub overflow_add-w : goal.overflow_add-w
overflow_add-w c = let s = flags_0 (the_lattice c.args.h.now) c.args.h.now.l.limits c.args.choice c.args.h.now.m c.args.level (c.requires.level_lt_m, c.args.h.now.few) c.requires.w_value c.args.flags.now c.requires.m_bound in omega (arith, s.low, edges_few (the_lattice c.args.h.now) c.args.h.now.l.limits (c.args.level + 1), c.edges-c.ensures)

pub averaged_part-requires-clause-from_value : goal.averaged_part-requires-clause-from_value
averaged_part-requires-clause-from_value c = (averaged_ready (the_lattice c.args.h.now) c.args.h.now.l.limits c.args.choice c.args.h.now.m c.args.level (c.requires.level_lt_m, c.args.h.now.few) c.requires.w_value c.args.flags.now c.requires.m_bound c.in-Rediscretized.is c.edges-c.ensures (length c.args.eps.now) c.requires.m_in_bounds).0

pub averaged_part-requires-clause-part_flags : goal.averaged_part-requires-clause-part_flags
averaged_part-requires-clause-part_flags c = (averaged_ready (the_lattice c.args.h.now) c.args.h.now.l.limits c.args.choice c.args.h.now.m c.args.level (c.requires.level_lt_m, c.args.h.now.few) c.requires.w_value c.args.flags.now c.requires.m_bound c.in-Rediscretized.is c.edges-c.ensures (length c.args.eps.now) c.requires.m_in_bounds).1.0

pub averaged_part-requires-clause-m_in_bounds : goal.averaged_part-requires-clause-m_in_bounds
averaged_part-requires-clause-m_in_bounds c = (averaged_ready (the_lattice c.args.h.now) c.args.h.now.l.limits c.args.choice c.args.h.now.m c.args.level (c.requires.level_lt_m, c.args.h.now.few) c.requires.w_value c.args.flags.now c.requires.m_bound c.in-Rediscretized.is c.edges-c.ensures (length c.coarse_part.new.eps) (omega (arith, c.requires.m_in_bounds, c.coarse_part.auto.eps))).1.1

pub returns-in-Galerkin : goal.returns-in-Galerkin
returns-in-Galerkin c = eps_galerkin c.args.level c.args.flags.now c.in-Galerkin.is refl c.in_ok-coarse_part.ensures

pub returns-in-Rediscretized : goal.returns-in-Rediscretized
returns-in-Rediscretized c = eps_rediscretized c.args.level c.args.flags.now c.in-Rediscretized.is refl c.in_ok-coarse_part.ensures c.averaged_part.ensures
