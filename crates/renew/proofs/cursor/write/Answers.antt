-- `renew::cursor::write` meets its contract.
-- Assumes nothing.
use mathlib.Core.Path.{ap}
use Rattle.store.specs.Cells.{kind_in}
use Rattle.store.specs.Spots.{permittivity, forwards, turneds, entries, scales}
use Rattle.store.proofs.CellLaws.{below_kind, set_kind}
use Rattle.renew.proofs.cursor.write.Goals as goal

pub bounds-v-at : goal.bounds-v-at
bounds-v-at c = below_kind _ _ _ permittivity (ap kind_in c.in-Permittivities.is) c.requires

pub returns-in-Permittivities-clause-left : goal.returns-in-Permittivities-clause-left
returns-in-Permittivities-clause-left c = set_kind _ _ _ _ permittivity (ap kind_in c.in-Permittivities.is)

pub bounds-v-at-in-Forward : goal.bounds-v-at-in-Forward
bounds-v-at-in-Forward c = below_kind _ _ _ forwards (ap kind_in c.in-Forward.is) c.requires

pub returns-in-Forward-clause-left : goal.returns-in-Forward-clause-left
returns-in-Forward-clause-left c = set_kind _ _ _ _ forwards (ap kind_in c.in-Forward.is)

pub bounds-v-at-in-Turned : goal.bounds-v-at-in-Turned
bounds-v-at-in-Turned c = below_kind _ _ _ turneds (ap kind_in c.in-Turned.is) c.requires

pub returns-in-Turned-clause-left : goal.returns-in-Turned-clause-left
returns-in-Turned-clause-left c = set_kind _ _ _ _ turneds (ap kind_in c.in-Turned.is)

pub bounds-v-at-in-Operator : goal.bounds-v-at-in-Operator
bounds-v-at-in-Operator c = below_kind _ _ _ entries (ap kind_in c.in-Operator.is) c.requires

pub returns-in-Operator-clause-left : goal.returns-in-Operator-clause-left
returns-in-Operator-clause-left c = set_kind _ _ _ _ entries (ap kind_in c.in-Operator.is)

pub bounds-v-at-in-Scaling : goal.bounds-v-at-in-Scaling
bounds-v-at-in-Scaling c = below_kind _ _ _ scales (ap kind_in c.in-Scaling.is) c.requires

pub returns-in-Scaling-clause-left : goal.returns-in-Scaling-clause-left
returns-in-Scaling-clause-left c = set_kind _ _ _ _ scales (ap kind_in c.in-Scaling.is)
