-- `operators::stencil::assembled` meets its contract. The invariant: the first r rows are laid, and their starts.
-- Assumes nothing.
use Prim.Native.Nat.{◌≤◌}
use Rattle.lattice.specs.Sound.{full}
use Rattle.numbers.specs.Lists.{read_from}
use Rattle.operators.specs.Stencil.{stencil_row}
use Rattle.operators.proofs.StencilLaws.{Assembling}
use Rattle.operators.proofs.stencil.assembled.Given as goal

abbrev pub invariant-loop-r : goal.invariant-loop-r
invariant-loop-r l =
    (l.n ≤ 12288)
    × Assembling (stencil_row (full l.l) (read_from l.eps l.from)) l.n l.initial.starts l.s l.initial.columns l.initial.values l.k l.starts l.columns l.values l.next l.finite l.r
