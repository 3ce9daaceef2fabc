-- The five lists of numbers are as long as they were.
-- Assumes nothing.
use Rattle.std.specs.Prelude.{◌≡◌, length}
use Rattle.store.specs.Renewed.{Five}

pub record SameLong (v u : Five) : Type 0 where
  pub e_long : length u.e ≡ length v.e
  pub f_long : length u.f ≡ length v.f
  pub t_long : length u.t ≡ length v.t
  pub o_long : length u.o ≡ length v.o
  pub c_long : length u.c ≡ length v.c
