-- `programs::feed::feed` meets its contract.
-- Assumes nothing.
use mathlib.Core.Path.{refl, sym, ◌∙◌}
use native.Mathlib.Omega.{arith}
use lib.ListN.{drop}
use Rattle.store.specs.Lists.{store_of}
use Rattle.programs.specs.Reading.{machine}
use Rattle.programs.proofs.MachineLaws.{same_lists, still_same}
use Rattle.programs.proofs.Pieces.{fed_refused, fed_turn, fed_end}
use Rattle.programs.proofs.feed.feed.Goals as goal

pub loop-b-init : goal.loop-b-init
loop-b-init c = record { left = refl; same = same_lists _; room = refl }

pub loop-b-preserved : goal.loop-b-preserved
loop-b-preserved c =
    let a = c.args in
    let l = c.loop-b in
    record {
      left = fed_turn a.limit (machine a.r a.held.now (store_of a.lists.now)) (machine l.u l.held (store_of l.lists)) a.piece.now l.b-index l.invariant.left (omega arith) c.feed_byte-u.ensures.left;
      same = still_same l.invariant.same c.feed_byte-u.ensures.same;
      room = c.feed_byte-u.auto.held ∙ l.invariant.room;
    }

pub returns-in-Err-clause-left : goal.returns-in-Err-clause-left
returns-in-Err-clause-left c =
    let a = c.args in
    let l = c.loop-b in
    sym (fed_refused a.limit (machine l.u l.held (store_of l.lists)) (drop l.b-index a.piece.now) c.in-Err.is) ∙ l.invariant.left

pub returns-clause-left : goal.returns-clause-left
returns-clause-left c =
    let a = c.args in
    let l = c.loop-b in
    fed_end a.limit (machine a.r a.held.now (store_of a.lists.now)) (machine l.u l.held (store_of l.lists)) a.piece.now l.b-index l.invariant.left (omega arith)
