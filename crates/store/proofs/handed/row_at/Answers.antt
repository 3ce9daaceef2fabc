-- `store::handed::row_at` meets its contract: each test that fails, or all that hold.
-- Assumes nothing.
use mathlib.Core.Path.{sym, ◌∙◌}
use Rattle.store.proofs.HandedLaws.{row_missing, row_shut, passed_whole, row_starts, row_unsorted, row_room, row_found}
use native.Mathlib.Omega.{arith}
use Rattle.store.proofs.handed.row_at.Goals as goal

pub returns-then-n-row : goal.returns-then-n-row
returns-then-n-row c = row_missing _ _ _ _ _ (omega (arith, c.edges-n.ensures))

pub returns-in_err-at : goal.returns-in_err-at
returns-in_err-at c = rw c.from_residual.ensures (row_shut _ _ _ _ _ (sym c.part_at.ensures ∙ c.in_err-at.was))

pub overflow_sub-starts : goal.overflow_sub-starts
overflow_sub-starts c = (passed_whole (sym c.part_at.ensures ∙ c.in_ok-at.was)).at_fits

pub returns-then-starts-at : goal.returns-then-starts-at
returns-then-starts-at c = row_starts _ _ _ _ _ (passed_whole (sym c.part_at.ensures ∙ c.in_ok-at.was)) c.if-starts-at.true

pub returns-then-b-a : goal.returns-then-b-a
returns-then-b-a c = row_unsorted _ _ _ _ _ (passed_whole (sym c.part_at.ensures ∙ c.in_ok-at.was)) c.if-b-a.true

pub overflow_sub-room : goal.overflow_sub-room
overflow_sub-room c = (passed_whole (sym c.part_at.ensures ∙ c.in_ok-at.was)).terms_fit

pub returns-then-room-terms : goal.returns-then-room-terms
returns-then-room-terms c = row_room _ _ _ _ _ (passed_whole (sym c.part_at.ensures ∙ c.in_ok-at.was)) c.if-room-terms.true

pub returns : goal.returns
returns c = row_found _ _ _ _ _ (passed_whole (sym c.part_at.ensures ∙ c.in_ok-at.was)) (omega (arith, c.edges-n.ensures)) c.if-starts-at.false c.if-b-a.false c.if-room-terms.false
