-- `reach::flags::first_row` meets its contract.
-- Assumes nothing.
use mathlib.Core.Path.{refl, sym, ◌∙◌}
use Rattle.numbers.proofs.MarkedLaws.{marked_not}
use Rattle.store.proofs.PassLaws.{first_asked, first_room, first_marked}
use Rattle.reach.proofs.flags.first_row.Goals as goal

pub returns-then-not-flagged : goal.returns-then-not-flagged
returns-then-not-flagged c = marked_not (sym c.flagged.ensures ∙ c.if-not-flagged.true)

pub row_columns-n-requires-clause-t_len : goal.row_columns-n-requires-clause-t_len
row_columns-n-requires-clause-t_len c = (first_asked _ c.args.l.now.limits c.requires.relations c.requires.c_bound c.at-p.ensures).0

pub row_columns-n-requires-clause-limits : goal.row_columns-n-requires-clause-limits
row_columns-n-requires-clause-limits c = (first_asked _ c.args.l.now.limits c.requires.relations c.requires.c_bound c.at-p.ensures).1.0

pub row_columns-n-requires-clause-inside : goal.row_columns-n-requires-clause-inside
row_columns-n-requires-clause-inside c = (first_asked _ c.args.l.now.limits c.requires.relations c.requires.c_bound c.at-p.ensures).1.1.0

pub row_columns-n-requires-clause-at_bound : goal.row_columns-n-requires-clause-at_bound
row_columns-n-requires-clause-at_bound c = (first_asked _ c.args.l.now.limits c.requires.relations c.requires.c_bound c.at-p.ensures).1.1.1

pub mark_each-requires-clause-n_in_bounds : goal.mark_each-requires-clause-n_in_bounds
mark_each-requires-clause-n_in_bounds c = (first_room _ c.args.l.now.limits c.requires.relations c.requires.c_bound c.at-p.ensures c.fixed_at-fixed.ensures c.row_columns-n.ensures refl _ c.requires.grid_in_bounds).0

pub mark_each-requires-clause-below : goal.mark_each-requires-clause-below
mark_each-requires-clause-below c = (first_room _ c.args.l.now.limits c.requires.relations c.requires.c_bound c.at-p.ensures c.fixed_at-fixed.ensures c.row_columns-n.ensures refl _ c.requires.grid_in_bounds).1

pub returns : goal.returns
returns c = first_marked _ c.args.l.now.limits c.requires.relations c.requires.c_bound c.at-p.ensures c.fixed_at-fixed.ensures c.row_columns-n.ensures refl (sym c.flagged.ensures ∙ c.if-not-flagged.false) c.mark_each.ensures
