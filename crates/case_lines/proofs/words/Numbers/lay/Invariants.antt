use Rattle.std.proofs.Common.{◌≡◌, ◌++◌, take, drop}
use Rattle.case_lines.specs.Left.{numbers_left}
use Rattle.case_lines.proofs.words.Numbers.lay.Given as goal

-- the numbers so far stand in front, those to come are left, and behind is what stood there
abbrev pub invariant-loop-k : goal.invariant-loop-k
invariant-loop-k l =
    (take l.k l.list ++ numbers_left l.self ≡ numbers_left l.initial.self)
    × (drop l.k l.list ≡ drop l.k l.initial.list)
