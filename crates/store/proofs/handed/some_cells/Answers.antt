-- `store::handed::some_cells` meets its contract: `&&` by the way taken.
-- Assumes nothing.
use mathlib.Core.Path.{refl}
use borrow.Author.Tests.{lt-ltb, le-ltb}
use Rattle.store.proofs.handed.some_cells.Goals as goal

pub returns-then-n-gt0 : goal.returns-then-n-gt0
returns-then-n-gt0 c = rw (lt-ltb _ _ c.if-n-gt0.true) refl

pub returns-else-n-gt0 : goal.returns-else-n-gt0
returns-else-n-gt0 c = rw (le-ltb _ _ c.if-n-gt0.false) refl
