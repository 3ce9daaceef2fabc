use mathlib.Core.Path.{refl, sym, subst}
use native.Mathlib.Omega.{arith}
use lib.ListN.{length-set}
use Rattle.lattice.specs.declared.levels.Three.{Three}
use Rattle.lattice.specs.Sound.{full}
use Rattle.lattice.specs.Line.{Held}
use Rattle.lattice.proofs.LevelLaws.{three_held, Stored, stored_start, stored_few, stored_same, stored_turn, stored_end}
use Rattle.lattice.proofs.levels.join_lines.Goals as goal

pub loop-level-init : goal.loop-level-init
loop-level-init c = (omega arith, refl, λ l h e f. stored_start c.no_line-none.ensures f)

pub edges-requires : goal.edges-requires
edges-requires c =
    let stored : Stored ((full c.args.l.now)) c.args.coarsest c.loop-level.level c.loop-level.lines c.loop-level.t = c.loop-level.invariant.2 ((full c.args.l.now)) c.args.l.now.limits c.across_maps-m.ensures c.finest-t.ensures in
    let held : Held c.loop-level.t.x × Held c.loop-level.t.y × Held c.loop-level.t.z = subst (λ (t : Three). Held t.x × Held t.y × Held t.z) (sym (stored).here) (three_held ((full c.args.l.now)) c.args.l.now.limits c.loop-level.level) in
    held

pub returns-then-edges-coarsest : goal.returns-then-edges-coarsest
returns-then-edges-coarsest c =
    let stored : Stored ((full c.args.l.now)) c.args.coarsest c.loop-level.level c.loop-level.lines c.loop-level.t = c.loop-level.invariant.2 ((full c.args.l.now)) c.args.l.now.limits c.across_maps-m.ensures c.finest-t.ensures in
    stored_few (stored) c.loop-level-test.true c.edges.ensures c.if-edges-coarsest.true

pub coarser-next-requires : goal.coarser-next-requires
coarser-next-requires c =
    let stored : Stored ((full c.args.l.now)) c.args.coarsest c.loop-level.level c.loop-level.lines c.loop-level.t = c.loop-level.invariant.2 ((full c.args.l.now)) c.args.l.now.limits c.across_maps-m.ensures c.finest-t.ensures in
    let held : Held c.loop-level.t.x × Held c.loop-level.t.y × Held c.loop-level.t.z = subst (λ (t : Three). Held t.x × Held t.y × Held t.z) (sym (stored).here) (three_held ((full c.args.l.now)) c.args.l.now.limits c.loop-level.level) in
    held

pub returns-then-same_cells : goal.returns-then-same_cells
returns-then-same_cells c =
    let stored : Stored ((full c.args.l.now)) c.args.coarsest c.loop-level.level c.loop-level.lines c.loop-level.t = c.loop-level.invariant.2 ((full c.args.l.now)) c.args.l.now.limits c.across_maps-m.ensures c.finest-t.ensures in
    stored_same (stored) c.loop-level-test.true c.args.l.now.limits c.across_maps-m.ensures
    c.edges.ensures c.if-edges-coarsest.false c.target.ensures c.coarser-next.ensures c.same_cells.ensures c.if-same_cells.true

pub loop-level-preserved : goal.loop-level-preserved
loop-level-preserved c = (
  omega arith,
  simp length-set c.loop-level.invariant.1,
  λ l h e f.
      stored_turn (c.loop-level.invariant.2 l h e f) c.loop-level-test.true h e c.edges.ensures c.if-edges-coarsest.false c.target.ensures c.coarser-next.ensures c.same_cells.ensures
      c.if-same_cells.false,
)

pub returns : goal.returns
returns c =
    let stored : Stored ((full c.args.l.now)) c.args.coarsest c.loop-level.level c.loop-level.lines c.loop-level.t = c.loop-level.invariant.2 ((full c.args.l.now)) c.args.l.now.limits c.across_maps-m.ensures c.finest-t.ensures in
    stored_end (stored) (omega arith) c.no_line-none.ensures
