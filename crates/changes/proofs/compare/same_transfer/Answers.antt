-- `changes::compare::same_transfer` meets its contract. The forward rows first, which the walk needs.
-- Assumes nothing.
use mathlib.Core.Path.{refl, sym, ◌∙◌}
use Rattle.store.proofs.CompareLaws.{forward_asked, forward_told}
use Rattle.changes.proofs.compare.same_transfer.Goals as goal

pub same_forward-requires : goal.same_forward-requires
same_forward-requires c = record { part_room = forward_asked c.args.h.now.l.limits c.pair.ensures c.requires.part_room }

pub returns-then-not-same_forward : goal.returns-then-not-same_forward
returns-then-not-same_forward c = rw (sym (forward_told c.args.h.now.l.limits c.pair.ensures c.requires.part_room c.same_forward.ensures) ∙ c.if-not-same_forward.true) refl

pub same_turned-requires-clause-columns_value : goal.same_turned-requires-clause-columns_value
same_turned-requires-clause-columns_value c = sym (forward_told c.args.h.now.l.limits c.pair.ensures c.requires.part_room c.same_forward.ensures) ∙ c.if-not-same_forward.false

pub returns : goal.returns
returns c = rw (sym (forward_told c.args.h.now.l.limits c.pair.ensures c.requires.part_room c.same_forward.ensures) ∙ c.if-not-same_forward.false) c.same_turned.ensures
