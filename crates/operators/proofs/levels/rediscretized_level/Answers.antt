-- `operators::levels::rediscretized_level` meets its contract: the permittivities are laid first, then the rows are worked out from the lattice of the
-- level's lines.
-- Assumes nothing.
use Rattle.operators.proofs.RediscretizedLists.{lines_nested, coarse_tame, room_nested, own_lattice, lattice_asked, both_finite, one_not}
use Rattle.operators.proofs.RediscretizedLevel.{both_lines, level_left}
use Rattle.operators.proofs.levels.rediscretized_level.Goals as goal

pub invariant_of-nested : goal.invariant_of-nested
invariant_of-nested c = record { lines = lines_nested _ _ c.requires.given.limits (both_lines c.requires.given) }

pub averaged_eps-known-requires : goal.averaged_eps-known-requires
averaged_eps-known-requires c =
    record { chain_room = room_nested _ _ c.requires.given.limits (both_lines c.requires.given) c.requires.given.chain }

pub rediscretized_lattice-lc-requires-clause-held_three :
    goal.rediscretized_lattice-lc-requires-clause-held_three
rediscretized_lattice-lc-requires-clause-held_three c =
    c.args.pair.now.paired.coarse_held

pub rediscretized_stretches-sc-requires-clause-held_three :
    goal.rediscretized_stretches-sc-requires-clause-held_three
rediscretized_stretches-sc-requires-clause-held_three c =
    c.args.pair.now.paired.coarse_held

pub rediscretized_stretches-sc-requires-clause-tame :
    goal.rediscretized_stretches-sc-requires-clause-tame
rediscretized_stretches-sc-requires-clause-tame c =
    coarse_tame _ _ c.requires.given.limits (both_lines c.requires.given)

pub invariant_of-next : goal.invariant_of-next
invariant_of-next c = let a = lattice_asked _ _ c.requires.given.limits (both_lines c.requires.given) c.requires.given.chain c.averaged_eps-known.ensures.eps_after (own_lattice _ _ _ _ c.rediscretized_lattice-lc.ensures c.rediscretized_stretches-sc.ensures.result_value) in
    record { limits = a.0 }

pub assembled-sound-requires-clause-from_bound : goal.assembled-sound-requires-clause-from_bound
assembled-sound-requires-clause-from_bound c = let a = lattice_asked _ _ c.requires.given.limits (both_lines c.requires.given) c.requires.given.chain c.averaged_eps-known.ensures.eps_after (own_lattice _ _ _ _ c.rediscretized_lattice-lc.ensures c.rediscretized_stretches-sc.ensures.result_value) in
    a.1

pub returns-then-known : goal.returns-then-known
returns-then-known c =
    level_left c.averaged_eps-known.ensures.eps_after (own_lattice _ _ _ _ c.rediscretized_lattice-lc.ensures c.rediscretized_stretches-sc.ensures.result_value) c.averaged_eps-known.ensures.value c.assembled-sound.ensures.laid_rows c.assembled-sound.ensures.value (λ v w p q. both_finite p q c.if-known.true)

pub returns-else-known : goal.returns-else-known
returns-else-known c =
    level_left c.averaged_eps-known.ensures.eps_after (own_lattice _ _ _ _ c.rediscretized_lattice-lc.ensures c.rediscretized_stretches-sc.ensures.result_value) c.averaged_eps-known.ensures.value c.assembled-sound.ensures.laid_rows c.assembled-sound.ensures.value (λ v w p q. one_not p q c.if-known.false)
