-- `renew::parts::renew_level` meets its contract.
-- Assumes nothing.
use mathlib.Core.Path.{ap}
use Rattle.std.proofs.lemmas.Result.{err_from_is_err_and}
use native.Mathlib.Omega.{arith}
use mathlib.Core.Path.{refl}
use Rattle.store.specs.declared.change.Standing.{Standing}
use Rattle.store.specs.Lists.{fixed_of}
use Rattle.store.proofs.RenewTransferLaws.{shaped_starts, shaped_turned}
use Rattle.store.proofs.LevelParts.{weight_long, room_long, level_first, level_second, level_third}
use Rattle.renew.proofs.SameLaws.{long_then}
use borrow.Author.Rules.{rules}
use Rattle.renew.proofs.parts.renew_level.Goals as goal

pub eps_parts-requires-clause-w_value : goal.eps_parts-requires-clause-w_value
eps_parts-requires-clause-w_value c = c.requires.w_value.1

pub returns-in_err-eps_parts : goal.returns-in_err-eps_parts
returns-in_err-eps_parts c =
    let p = err_from_is_err_and c.from_residual.result c.from_residual.ensures.1 in
    rw (p.1, p.2) (record { same = record { eps = refl; values = refl; tvalues = refl; ovalues = refl; scaling = refl }; long = record { e_long = search rules; f_long = search rules; t_long = search rules; o_long = search rules; c_long = search rules }; renewed = level_first (fixed_of c.args.s.now) c.args.level c.args.flags.now (λ q. omega (arith, q)) c.in_err-eps_parts.ensures })

pub weight_parts-requires-clause-w_value : goal.weight_parts-requires-clause-w_value
weight_parts-requires-clause-w_value c = c.requires.w_value.1

pub weight_parts-requires-clause-starts_at : goal.weight_parts-requires-clause-starts_at
weight_parts-requires-clause-starts_at c = shaped_starts c.requires.shaped c.requires.level_lt_m

pub weight_parts-requires-clause-turned_ready : goal.weight_parts-requires-clause-turned_ready
weight_parts-requires-clause-turned_ready c = shaped_turned c.requires.shaped c.requires.level_lt_m (ap (λ (s : Standing). s.o) c.requires.w_value.1) c.requires.five_room

pub weight_parts-requires-clause-weight_room : goal.weight_parts-requires-clause-weight_room
weight_parts-requires-clause-weight_room c = weight_long c.requires.five_room (search rules)

pub returns-in_err-weight_parts : goal.returns-in_err-weight_parts
returns-in_err-weight_parts c =
    let p = err_from_is_err_and c.from_residual-in_err-weight_parts.result c.from_residual-in_err-weight_parts.ensures.1 in
    rw (p.1, p.2) (record { same = record { eps = refl; values = refl; tvalues = refl; ovalues = refl; scaling = refl }; long = record { e_long = search rules; f_long = search rules; t_long = search rules; o_long = search rules; c_long = search rules }; renewed = level_second (fixed_of c.args.s.now) c.args.level c.args.flags.now refl c.in_ok-eps_parts.ensures (λ q. omega (arith, q)) c.in_err-weight_parts.ensures })

pub operator_parts-requires-clause-five_room : goal.operator_parts-requires-clause-five_room
operator_parts-requires-clause-five_room c = room_long c.requires.five_room (search rules, search rules, search rules, search rules, search rules)

pub returns-clause-long : goal.returns-clause-long
returns-clause-long c = long_then (record { e_long = search rules; f_long = search rules; t_long = search rules; o_long = search rules; c_long = search rules }) c.operator_parts.ensures.long

pub returns-clause-renewed : goal.returns-clause-renewed
returns-clause-renewed c = level_third (fixed_of c.args.s.now) c.args.level c.args.flags.now refl c.in_ok-eps_parts.ensures refl c.in_ok-weight_parts.ensures c.operator_parts.ensures.renewed
