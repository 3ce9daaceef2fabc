use Prim.Native.Nat.{◌*◌}
use mathlib.Core.Path.{refl, ap, ◌∙◌}
use lib.ListN.{get_or}
use native.Mathlib.Omega.{arith}
use Rattle.operators.specs.Bits.{single}
use Rattle.operators.proofs.CutLaws.{cut_long, cut_at}
use Rattle.operators.proofs.LevelTableLaws.{slot_room, placed_whole}
use Rattle.operators.proofs.WordLaws.{gathered_none, gathered_turn}
use Rattle.operators.proofs.pattern.forward_word.Goals as goal

pub loop-p-init : goal.loop-p-init
loop-p-init c = gathered_none _ _

pub unit-requires : goal.unit-requires
unit-requires c =
    let room = slot_room c.requires.entries c.requires.q_lt_all_slots in
    let l = cut_long c.args.ps.now (2 * c.args.q) (get_or c.args.ns.now c.args.q 0) room in
    rw (cut_at c.args.ps.now (2 * c.args.q) (get_or c.args.ns.now c.args.q 0) room c.loop-p.p-index 0 c.loop-p-test.true)
    (c.requires.entries.low _ _ c.requires.q_lt_all_slots (omega arith))

pub loop-p-preserved : goal.loop-p-preserved
loop-p-preserved c =
    let room = slot_room c.requires.entries c.requires.q_lt_all_slots in
    let here = cut_at c.args.ps.now (2 * c.args.q) (get_or c.args.ns.now c.args.q 0) room c.loop-p.p-index 0 c.loop-p-test.true in
    gathered_turn _ _ c.loop-p.invariant refl (c.unit.ensures ∙ ap single here) c.mix-w.ensures

pub returns : goal.returns
returns c =
    let room = slot_room c.requires.entries c.requires.q_lt_all_slots in
    let l = cut_long c.args.ps.now (2 * c.args.q) (get_or c.args.ns.now c.args.q 0) room in
    c.loop-p.invariant ∙ placed_whole _ _ _ _ (omega arith)
