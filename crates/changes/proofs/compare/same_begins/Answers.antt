use Rattle.changes.proofs.SliceLaws.{begins_part}
use Rattle.changes.proofs.compare.same_begins.Goals as goal

pub returns-then-tstarts-ts-eq0 : goal.returns-then-tstarts-ts-eq0
returns-then-tstarts-ts-eq0 c = begins_part c.args.next.now c.args.tstarts.now c.args.ts c.args.m c.requires.0 c.requires.1 c.if-tstarts-ts-eq0.true c.eq.ensures
