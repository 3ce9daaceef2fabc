-- `weights::tables::last_ends` meets its contract.
-- Assumes nothing.
use Rattle.weights.proofs.TableLaws.{last_ends}
use Rattle.weights.proofs.tables.last_ends.Goals as goal

pub returns : goal.returns
returns c =
    last_ends c.args.s.now c.requires
