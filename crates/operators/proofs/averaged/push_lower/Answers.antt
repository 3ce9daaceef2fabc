-- `operators::averaged::push_lower` meets its contract.
-- Assumes nothing.
use native.Mathlib.Omega.{arith}
use Rattle.operators.proofs.HatLaws.{lower_wall, lower_around, lower_inside}
use Rattle.operators.proofs.averaged.push_lower.Goals as goal

pub push_between-requires-clause-end_bound : goal.push_between-requires-clause-end_bound
push_between-requires-clause-end_bound c = (omega arith, omega arith, c.requires.m_lt_cells.1)

pub returns-then-m-gt0 : goal.returns-then-m-gt0
returns-then-m-gt0 c =
    lower_inside c.requires.line_pair c.requires.nodes_from c.args.wall c.args.m (omega (arith, c.if-m-gt0.true)) c.requires.m_lt_cells.0 (λ e. omega (arith, c.if-m-gt0.true)) c.push_between.ensures

pub returns-then-wall : goal.returns-then-wall
returns-then-wall c = lower_wall c.requires.line_pair c.args.wall c.args.m (omega arith) c.if-wall.true

pub push_between-requires-2-clause-end_bound : goal.push_between-requires-2-clause-end_bound
push_between-requires-2-clause-end_bound c = (c.requires.line_pair.coarse_held.some, omega arith, c.requires.m_lt_cells.1)

pub returns : goal.returns
returns c =
    lower_around c.requires.line_pair c.requires.nodes_from c.args.wall c.args.m (omega (arith, c.requires.line_pair.coarse_held.some)) (omega arith) c.if-wall.false c.push_between-2.ensures
