-- `store::needs::stored_starts` meets its contract.
-- Assumes nothing.
use mathlib.Core.Path.{refl}
use borrow.Author.Tests.{eq-eqb, ne_eqb}
use Rattle.store.proofs.needs.stored_starts.Goals as goal

pub returns-then-m-eq0 : goal.returns-then-m-eq0
returns-then-m-eq0 c = rw (eq-eqb _ 0 c.if-m-eq0.true) refl

pub returns : goal.returns
returns c = rw (ne_eqb _ 0 c.if-m-eq0.false) refl
