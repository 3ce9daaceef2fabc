-- `operators::pattern::base_relations` meets its contract.
-- Assumes nothing.
use Prim.Native.Nat.{ℕ}
use lib.ListN.{length-replicate}
use Rattle.operators.proofs.LevelTableLaws.{sizes_of_lem, base_of_lem}
use Rattle.operators.proofs.pattern.base_relations.Goals as goal

pub fill_base-requires : goal.fill_base-requires
fill_base-requires c = sizes_of_lem _ _ _ c.requires (length-replicate {A = ℕ} 1152 0)

pub returns : goal.returns
returns c =
    base_of_lem _ c.args.g c.is_wall-bx.ensures c.is_wall-by.ensures c.is_wall-bz.ensures c.fill_base.ensures
