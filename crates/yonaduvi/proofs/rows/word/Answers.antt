-- `yonaduvi::rows::word` meets its contract.
-- Assumes nothing.
use mathlib.Core.Path.{sym}
use lib.ListN.{get_or-eq_default}
use native.Mathlib.Omega.{arith}
use Rattle.yonaduvi.proofs.rows.word.Goals as goal

pub returns : goal.returns
returns c = sym (get_or-eq_default c.args.list.now 0 {n = c.args.k} (omega arith))
