use mathlib.Core.Path.{refl}
use Rattle.store.proofs.LineLaws.{both_lines, lines_paired}
use Rattle.store.proofs.hierarchy.Hierarchy.pair.Goals as goal

pub invariant_of-result : goal.invariant_of-result
invariant_of-result c = record { paired = lines_paired _ c.args.self.now.l.limits _ c.args.self.now.has_lines c.requires c.three-fine.ensures c.three-coarse.ensures }

pub returns : goal.returns
returns c =
    let lines = both_lines _ c.args.self.now.l.limits _ c.args.self.now.has_lines c.requires c.three-fine.ensures c.three-coarse.ensures in
    record { base_is = refl; fine_is = lines.0; coarse_is = lines.1 }
