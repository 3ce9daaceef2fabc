-- `lattice::line::nodes_of` meets its contract. The invariant (`Numbered`): m nodes are numbered, the first q ends are below node m.
use Prim.Native.Nat.{◌+◌, ◌≤◌}
use Rattle.lattice.proofs.LineLaws.{Numbered}
use Rattle.lattice.proofs.line.nodes_of.Given as goal

abbrev pub invariant-loop-m : goal.invariant-loop-m
invariant-loop-m l = (l.m ≤ l.fn.coarse.cells + 1) × Numbered l.fine l.fn.coarse l.m l.q l.nodes
