-- `renew::guard::guard` meets its contract.
-- Assumes nothing.
use Rattle.std.proofs.Common.{suc, refl, arith}
use Rattle.store.proofs.GuardLaws.{guard_end, guard_good, guard_back}
use Rattle.renew.proofs.SameLaws.{same_then, long_then, cells_long}
use Rattle.renew.proofs.guard.+guard.Goals as goal

pub returns-then-c-eq0-clause-long : goal.returns-then-c-eq0-clause-long
returns-then-c-eq0-clause-long t c = c.renew_rows.ensures.long

pub returns-then-c-eq0-clause-guarded : goal.returns-then-c-eq0-clause-guarded
returns-then-c-eq0-clause-guarded t c = guard_end _ _ _ _ _ _ _ _ _ (c.requires.cursor_in.ended c.if-c-eq0.true) c.renew_rows.ensures.renewed

pub put_back-requires-clause-cells_fit : goal.put_back-requires-clause-cells_fit
put_back-requires-clause-cells_fit t c = cells_long c.guard.ensures.long c.requires.cells_fit

pub returns-in-Err-clause-same : goal.returns-in-Err-clause-same
returns-in-Err-clause-same t c = same_then c.guard.ensures.same c.put_back.ensures.same

pub returns-in-Err-clause-long : goal.returns-in-Err-clause-long
returns-in-Err-clause-long t c = long_then c.guard.ensures.long c.put_back.ensures.long

pub returns-in-Err-clause-guarded : goal.returns-in-Err-clause-guarded
returns-in-Err-clause-guarded t c =
    let s = c.save-saved.ensures.saved_from in
    guard_back _ _ _ _ _ _ _ _ _ _ _ (suc c.in-Err.bad.0) _ (λ q. omega (arith, q)) s.rest_is s.high s.kept c.in-Err.ensures.guarded c.put_back.ensures.left

pub returns-clause-same : goal.returns-clause-same
returns-clause-same t c = c.in_default.ensures.same

pub returns-clause-long : goal.returns-clause-long
returns-clause-long t c = c.in_default.ensures.long

pub returns-clause-guarded : goal.returns-clause-guarded
returns-clause-guarded t c =
    let s = c.save-saved.ensures.saved_from in
    guard_good _ _ _ _ _ _ _ _ _ _ 0 refl s.rest_is c.in_default.ensures.guarded
