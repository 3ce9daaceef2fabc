use native.Mathlib.Omega.{arith}
use Rattle.weights.specs.Tables.{slot_ratio, slot_axis}
use Rattle.weights.proofs.TableLaws.{block_some, block_low}
use Rattle.weights.proofs.tables.slot_ratio.Goals as goal

pub invariant_of-a : goal.invariant_of-a
invariant_of-a c = record {
  maps_long = (c.requires.xs_len.0, omega (arith, c.requires.q_lt_all_slots));
  some = (
    rw c.block.ensures (block_some c.args.q c.args.t.now.limits c.args.t.now.values_of c.requires.q_lt_all_slots),
    c.requires.xs_len.1.end_low _ (omega (arith, c.requires.q_lt_all_slots)),
  );
  low = rw c.block.ensures (block_low c.args.q c.args.t.now.limits c.args.t.now.values_of c.requires.q_lt_all_slots);
}

pub returns : goal.returns
unfolding slot_ratio slot_axis
returns c = rw (← c.edges_on.ensures, ← c.block.ensures) c.ratio_at.ensures
