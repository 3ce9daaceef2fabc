use Rattle.std.proofs.Common.{ap, ◌∙◌}
use Rattle.numbers.specs.Lists.{any_flag}
use native.Mathlib.Omega.{arith}
use Rattle.numbers.proofs.StoredLaws.{start_room}
use Rattle.store.proofs.PassLaws.{row_starts, row_places}
use Rattle.reach.proofs.flags.stored_flag.Goals as goal

pub overflow_add-a : goal.overflow_add-a
overflow_add-a c = omega (arith, c.requires.rows_there.held.starts_room)

pub overflow_add-e : goal.overflow_add-e
overflow_add-e c = omega (arith, c.requires.rows_there.held.starts_room)

pub bounds-starts-s : goal.bounds-starts-s
bounds-starts-s c = omega (arith, c.requires.rows_there.held.starts_room)

pub overflow_add-o : goal.overflow_add-o
overflow_add-o c = omega (arith, c.requires.rows_there.held.columns_room, (row_starts c.requires.rows_there.held.rows_at c.args.r c.requires.r_lt_n).0, start_room c.requires.rows_there.cols c.args.n c.args.r c.requires.r_lt_n)

pub overflow_sub-e : goal.overflow_sub-e
overflow_sub-e c = omega (arith, (row_starts c.requires.rows_there.held.rows_at c.args.r c.requires.r_lt_n).0, (row_starts c.requires.rows_there.held.rows_at c.args.r c.requires.r_lt_n).1)

pub any_flag-requires : goal.any_flag-requires
any_flag-requires c = omega (arith, c.requires.rows_there.held.columns_room, (row_starts c.requires.rows_there.held.rows_at c.args.r c.requires.r_lt_n).0, (row_starts c.requires.rows_there.held.rows_at c.args.r c.requires.r_lt_n).1, start_room c.requires.rows_there.cols c.args.n c.args.r c.requires.r_lt_n)

pub returns : goal.returns
returns c = λ cols w.
    let t = row_starts w c.args.r c.requires.r_lt_n in
    c.any_flag.ensures ∙ ap (any_flag c.args.flags.now) (row_places w c.args.r c.requires.r_lt_n (omega (arith, t.0)) (omega (arith, t.0, t.1)))
