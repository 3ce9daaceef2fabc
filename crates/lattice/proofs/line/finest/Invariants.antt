-- `lattice::line::finest` meets its contract. The invariant: the first m ends are filled, and zeros stand behind them.
use Prim.Native.Nat.{◌+◌}
use Rattle.lattice.specs.Line.{twice}
use Rattle.numbers.proofs.TabulateLaws.{Filled}
use Rattle.lattice.proofs.line.finest.Given as goal

abbrev pub invariant-loop-m : goal.invariant-loop-m
invariant-loop-m l = Filled twice 0 0 (l.n + 1) l.m l.end-items
