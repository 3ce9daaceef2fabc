use Prim.Native.Nat.{◌*◌}
use native.Mathlib.Omega.{arith}
use Rattle.std.proofs.lemmas.Grind.{common_steps}
use Rattle.weights.proofs.TableLaws.{laid_over}
use Rattle.weights.proofs.tables.lay_nodes.Goals as goal

pub returns : goal.returns
returns c =
    let e = laid_over c.args.out.now (65 * c.args.a) c.args.nodes (omega arith) in
    rw e (grind (arith, common_steps))
