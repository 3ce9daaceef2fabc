use Prim.Native.Nat.{◌%◌}
use native.Mathlib.Omega.{arith}
use mathlib.Core.Path.{◌≡◌, sym, ◌∙◌}
use mathlib.Core.Bool.{◌&&◌, false}
use lib.Dec.{eqb}
use Rattle.weights.proofs.TableLaws.{block_some, free_inside, free_open, shares_past, shares_fixed, shares_free}
use Rattle.weights.proofs.tables.slot_taken.Goals as goal
use Rattle.weights.proofs.tables.slot_taken.Goals.{else-wall-via-then-wall+else-i-eq0, else-wall-via-else-wall}

pub returns-then-i-n : goal.returns-then-i-n
returns-then-i-n c = c.none.ensures ∙ shares_past _ _ _ _ _ _ (omega (arith, c.n.ensures))

pub returns-then-i-eq0 : goal.returns-then-i-eq0
returns-then-i-eq0 c =
    c.none-then-i-eq0.ensures
    ∙ shares_fixed _ _ _ _ _ _ (omega (arith, c.n.ensures)) (sym c.slot_wall-wall.ensures ∙ c.if-wall.true) c.if-i-eq0.true

pub taken-requires : goal.taken-requires
taken-requires c = rw c.block.ensures (block_some c.args.q c.args.t.now.limits c.args.t.now.values_of c.requires)

pub returns : goal.returns
returns c =
    let w = c.slot_wall-wall in
    let i = c.args.q % 64 in
    let free : (w.result && eqb i 0) ≡ false =
    elim c.else-wall.branch [
      | else-wall-via-then-wall+else-i-eq0 u ↦ free_inside w.result i u.if-i-eq0.false
      | else-wall-via-else-wall u ↦ free_open w.result i u.if-wall.false
    ] in
    c.taken.ensures
    ∙ shares_free _ _ _ _ _ _ (omega (arith, c.n.ensures)) w.ensures free c.edges_on-e.ensures c.block.ensures c.slot_along.ensures
