use native.Mathlib.Omega.{arith}
use Rattle.operators.proofs.GatherLaws.{adding_start, adding_turn, adding_end, bounds, row_gathered, stored_column}
use Rattle.operators.specs.Galerkin.{galerkin_terms}
use Rattle.operators.proofs.galerkin.gather.Goals as goal

pub places-at-requires : goal.places-at-requires
places-at-requires c = record { n = _; m = _; stored = c.requires.transfer.turned; low = c.requires.low }

pub loop-q-init : goal.loop-q-init
loop-q-init c = adding_start

pub get-w-requires : goal.get-w-requires
get-w-requires c = omega (arith, (bounds c.requires.transfer.turned _ c.requires.low).numbers, c.loop-q-test.true, c.places-at.ensures.last_is)

pub offset_bounds-t-q : goal.offset_bounds-t-q
offset_bounds-t-q c = omega (arith, (bounds c.requires.transfer.turned _ c.requires.low).few, c.requires.transfer.turned.low, c.loop-q-test.true, c.places-at.ensures.last_is)

pub bounds-t-q : goal.bounds-t-q
bounds-t-q c = omega (arith, (bounds c.requires.transfer.turned _ c.requires.low).room, c.loop-q-test.true, c.places-at.ensures.last_is)

pub add_row-requires : goal.add_row-requires
add_row-requires c =
    record {
      n = c.requires.n;
      m = c.requires.m;
      has = c.requires.has;
      forward = c.requires.transfer.forward;
      low = stored_column (bounds c.requires.transfer.turned _ c.requires.low) (rw c.places-at.ensures.first_is at c.loop-q.invariant.low) (rw c.places-at.ensures.last_is at c.loop-q-test.true);
    }

pub loop-q-preserved : goal.loop-q-preserved
loop-q-preserved c = adding_turn c.loop-q.invariant c.loop-q-test.true c.get-w.ensures c.add_row.ensures

pub returns : goal.returns
unfolding galerkin_terms
returns c = row_gathered _ _ _ _ _ _ _ c.places-at.ensures.first_is c.places-at.ensures.last_is (adding_end c.loop-q.invariant c.loop-q-test.false)
