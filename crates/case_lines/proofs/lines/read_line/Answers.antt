use Rattle.std.proofs.Common.{rules}
use Rattle.case_lines.proofs.LineLaws.{byte-kept}
use Rattle.case_lines.proofs.lines.read_line.Goals as goal

pub loop-k-preserved : goal.loop-k-preserved
loop-k-preserved g c = byte-kept _ _ _ _ _ _ _ (search rules) (search rules) (search rules) (search rules) (search rules) c.loop-k.invariant c.in_ok-read.ensures.bytes.0
