-- `operators::columns::write_row` meets its contract.
-- Assumes nothing.
use Prim.Native.Nat.{◌*◌}
use native.Mathlib.Omega.{arith}
use Rattle.operators.proofs.ColumnLaws.{row_done, area, volume, block_length}
use Rattle.operators.proofs.columns.write_row.Goals as goal

pub overflow_mul-cells : goal.overflow_mul-cells
overflow_mul-cells c =
    omega (arith, area c.args.nx c.args.ny c.requires.0 c.requires.1)

pub overflow_mul-cells-2 : goal.overflow_mul-cells-2
overflow_mul-cells-2 c =
    omega (arith, volume c.args.nx c.args.ny c.args.nz c.requires.0 c.requires.1 c.requires.2)

pub write_block-b-requires : goal.write_block-b-requires
write_block-b-requires c =
    omega (
      arith,
      volume c.args.nx c.args.ny c.args.nz c.requires.0 c.requires.1 c.requires.2,
      c.write_block-a.ensures.next,
      block_length c.args.x c.args.nx c.args.ny 0 c.args.nz 0 c.requires.0 c.requires.1,
    )

pub overflow_mul-cells-3 : goal.overflow_mul-cells-3
overflow_mul-cells-3 c =
    omega (arith, volume c.args.nx c.args.ny c.args.nz c.requires.0 c.requires.1 c.requires.2)

pub write_block-requires : goal.write_block-requires
write_block-requires c =
    omega (
      arith,
      volume c.args.nx c.args.ny c.args.nz c.requires.0 c.requires.1 c.requires.2,
      c.write_block-a.ensures.next,
      block_length c.args.x c.args.nx c.args.ny 0 c.args.nz 0 c.requires.0 c.requires.1,
      c.write_block-b.ensures.next,
      block_length c.args.y c.args.nx c.args.ny (c.args.nx * c.args.ny * c.args.nz) c.args.nz 0 c.requires.0 c.requires.1,
    )

pub returns : goal.returns
returns c =
    row_done _ _ _ _ _ _ c.write_block-a.ensures c.write_block-b.ensures c.write_block.ensures
