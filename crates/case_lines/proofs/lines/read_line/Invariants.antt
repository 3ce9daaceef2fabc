use Rattle.std.proofs.Common.{◌≢◌, All, take}
use Rattle.std.specs.Io.KnownBytes.{Consumes}
use Rattle.case_lines.proofs.lines.read_line.Given as goal

-- the room holds what was read, and no newline was among it
abbrev pub invariant-loop-k : goal.invariant-loop-k
invariant-loop-k g l =
    Consumes (g.R.Read.remaining l.initial.input) (g.R.Read.remaining l.input) (take l.k l.room) × All (λ b. b ≢ 10) (take l.k l.room)
