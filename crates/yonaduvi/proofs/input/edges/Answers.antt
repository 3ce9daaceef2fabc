-- `yonaduvi::input::edges` meets its contract.
-- Assumes nothing.
use Rattle.yonaduvi.specs.Exports.{edges_from}
use Rattle.yonaduvi.proofs.input.edges.Goals as goal

pub returns-then-kind : goal.returns-then-kind
unfolding edges_from
returns-then-kind c = rw c.if-kind.true

pub returns : goal.returns
unfolding edges_from
returns c = rw c.if-kind.false
