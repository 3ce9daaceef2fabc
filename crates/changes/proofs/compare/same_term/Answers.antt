-- `changes::compare::same_term` meets its contract. The place is tested, then the row, and then it goes on by one.
-- Assumes nothing.
use native.Mathlib.Omega.{arith}
use Rattle.store.proofs.TurnLaws.{term_bad, term_there}
use Rattle.changes.proofs.compare.same_term.Goals as goal

pub returns-then-count-at : goal.returns-then-count-at
returns-then-count-at c = term_bad c.requires.c_lt_m.0 c.requires.c_lt_m.1 (λ low e. omega (arith, low, c.if-count-at.true))

pub returns-then-tcolumns-tk : goal.returns-then-tcolumns-tk
returns-then-tcolumns-tk c = term_bad c.requires.c_lt_m.0 c.requires.c_lt_m.1 (λ low e. c.if-tcolumns-tk.true e)

pub returns : goal.returns
returns c = term_there c.requires.c_lt_m.0 c.requires.c_lt_m.1 (omega (arith, c.if-count-at.false)) c.if-tcolumns-tk.false
