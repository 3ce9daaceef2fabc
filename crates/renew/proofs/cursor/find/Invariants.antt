-- `renew::cursor::find` meets its contract.
-- Assumes nothing.
use Rattle.renew.specs.Walk.{chart_of}
use Rattle.store.proofs.CellLaws.{Finding}
use Rattle.renew.proofs.cursor.find.Given as goal

abbrev pub invariant-loop-p : goal.invariant-loop-p
invariant-loop-p l = Finding (chart_of l.fn.w) l.fn.w.parts l.part l.row l.p l.first

abbrev pub invariant-loop-i : goal.invariant-loop-i
invariant-loop-i l = Finding (chart_of l.fn.w) l.fn.w.parts l.part l.row l.p l.i
