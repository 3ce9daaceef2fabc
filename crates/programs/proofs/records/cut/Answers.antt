-- `programs::records::cut` meets its contract.
-- Assumes nothing.
use mathlib.Core.Path.{ap, refl, ◌∙◌}
use mathlib.Core.List.{List}
use lib.Ieee.{Float}
use native.Mathlib.Omega.{arith}
use Rattle.std.proofs.Common.{Bor}
use Rattle.programs.proofs.ReadingLaws.{cut_got}
use Rattle.programs.proofs.records.cut.Goals as goal

pub returns : goal.returns
returns c = ap (λ (b : Bor (List Float)). b.now) c.unwrap_or.ensures ∙ cut_got c.args.xs.now c.args.from c.args.n (c.saturating_add.ensures) (omega arith) c.get.result _ c.get.ensures.lookup.0 refl
