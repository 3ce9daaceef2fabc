use Rattle.std.proofs.Common.{◌≡◌, ◌+◌}
use native.Mathlib.Omega.{arith}
use Rattle.store.proofs.CellLaws.{saving_start, saving_turn, saving_end}
use Rattle.renew.proofs.cursor.save.Goals as goal

pub loop-n-init : goal.loop-n-init
loop-n-init c = (c.requires.cursor_in.1, saving_start c.args.old.now c.requires.len c.requires.cursor_in.0 c.requires.cursor_in.1)

pub read-requires : goal.read-requires
read-requires c = let h = c.loop-n.invariant.1.within.there (λ z. omega (arith, z, c.loop-n.invariant.0)) _ c.requires.cells_fit in omega (arith, h, c.loop-n.invariant.0)

pub step-c-requires : goal.step-c-requires
step-c-requires c = (c.loop-n.invariant.1.within, c.loop-n.invariant.0)

pub returns-then-c-eq0 : goal.returns-then-c-eq0
returns-then-c-eq0 c =
    let s = saving_turn c.loop-n.old c.loop-n.c c.step-c.result c.loop-n.n c.read.result c.loop-n.invariant.1 (omega (arith, c.loop-n.invariant.1.long)) c.read.ensures c.step-c.ensures in
    record {
      len_2 = s.long;
      saved_from = saving_end _ c.step-c.result (c.loop-n.n + 1) s (λ _. c.if-c-eq0.true);
    }

pub loop-n-preserved : goal.loop-n-preserved
loop-n-preserved c = (omega (arith, c.if-c-eq0.false), saving_turn c.loop-n.old c.loop-n.c c.step-c.result c.loop-n.n c.read.result c.loop-n.invariant.1 (omega (arith, c.loop-n.invariant.1.long)) c.read.ensures c.step-c.ensures)

pub returns : goal.returns
returns c =
    let z : c.loop-n.n ≡ 512 = omega (arith, c.loop-n.invariant.1.long, c.loop-n.invariant.1.most) in
    record {
      len_2 = c.loop-n.invariant.1.long;
      saved_from = rw z at (saving_end c.loop-n.old c.loop-n.c c.loop-n.n c.loop-n.invariant.1 (λ e. absurd (omega (arith, e, z))));
    }
