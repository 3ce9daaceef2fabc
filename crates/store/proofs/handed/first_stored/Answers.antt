-- `store::handed::first_stored` meets its contract.
-- Assumes nothing.
use mathlib.Core.Path.{refl}
use borrow.Author.Tests.{le-leb, lt-leb}
use Rattle.store.proofs.handed.first_stored.Goals as goal

pub returns-then-c-le1 : goal.returns-then-c-le1
returns-then-c-le1 c = rw (le-leb _ _ c.if-c-le1.true) refl

pub returns : goal.returns
returns c = rw (lt-leb _ _ c.if-c-le1.false) refl
