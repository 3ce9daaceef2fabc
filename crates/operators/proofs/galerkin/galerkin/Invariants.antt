-- `operators::galerkin::galerkin` meets its contract. The invariant: the first c rows are laid over the values as they were at first, and the sums are
-- +0. Fine rows that are read stand before the rows, and are as they were.
-- Assumes nothing.
use Rattle.numbers.specs.Places.{number_at}
use Rattle.lattice.specs.Lattice.{full_lattice}
use Rattle.operators.specs.Galerkin.{galerkin_numbers, rows_of, fine_row}
use Rattle.operators.proofs.GalerkinLaws.{RowsLaid}
use Rattle.operators.proofs.galerkin.galerkin.Given as goal

abbrev pub invariant-loop-c : goal.invariant-loop-c
invariant-loop-c l =
    RowsLaid
    (galerkin_numbers (fine_row l.fine (full_lattice l.l l.st) (number_at l.eps) l.ostarts l.ocolumns l.initial.ovalues) (rows_of l.p) (rows_of l.t))
    l.m l.o.k l.initial.ovalues l.ovalues l.sums l.c
