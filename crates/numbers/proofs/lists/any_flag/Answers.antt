use mathlib.Core.Path.{sym, ap, ◌∙◌}
use mathlib.Core.Bool.{false}
use native.Mathlib.Omega.{arith}
use lib.ListN.{get_or}
use Rattle.numbers.proofs.FlagLaws.{unflagged_start, unflagged_turn, unflagged_stop, unflagged_end}
use Rattle.numbers.proofs.SliceLaws.{part_at, part_long}
use Rattle.numbers.proofs.lists.any_flag.Goals as goal

pub loop-c-init : goal.loop-c-init
loop-c-init c = unflagged_start

pub returns-then-flagged : goal.returns-then-flagged
returns-then-flagged c =
    unflagged_stop c.loop-c.invariant (omega (arith, part_long c.args.columns.now c.args.k c.args.n c.requires))
    (ap (λ q. get_or c.args.flags.now q false) (sym (part_at c.args.columns.now c.args.k c.args.n _ _ (omega (arith, part_long c.args.columns.now c.args.k c.args.n c.requires)))) ∙ (sym c.flagged.ensures ∙ c.if-flagged.true))

pub loop-c-preserved : goal.loop-c-preserved
loop-c-preserved c =
    unflagged_turn c.loop-c.invariant (omega (arith, part_long c.args.columns.now c.args.k c.args.n c.requires))
    (ap (λ q. get_or c.args.flags.now q false) (sym (part_at c.args.columns.now c.args.k c.args.n _ _ (omega (arith, part_long c.args.columns.now c.args.k c.args.n c.requires)))) ∙ (sym c.flagged.ensures ∙ c.if-flagged.false))

pub returns : goal.returns
returns c = unflagged_end c.loop-c.invariant (omega (arith, part_long c.args.columns.now c.args.k c.args.n c.requires))
