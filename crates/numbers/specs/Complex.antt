-- Complex numbers as pairs of doubles (docs/SPECIFICATION.md, 1): each operation as the doubles' operations that it is made of, each of
-- which rounds once, in this order and with these operands.
-- Assumes nothing.
use Rattle.std.specs.Prelude.{Bool, true, false, ◌&&◌, Float}
use Rattle.std.specs.Float.{binary64, nan, inf, fin}
use Rattle.std.specs.Float.Ieee.{of_bits}
use Rattle.std.specs.Float.Ieee as Ieee
use Rattle.numbers.specs.declared.C64.{C64}

-- the doubles' operations, short
abbrev pub add_f : Float → Float → Float
add_f x y = Ieee.add binary64 x y

abbrev pub sub_f : Float → Float → Float
sub_f x y = Ieee.sub binary64 x y

abbrev pub mul_f : Float → Float → Float
mul_f x y = Ieee.mul binary64 x y

abbrev pub div_f : Float → Float → Float
div_f x y = Ieee.div binary64 x y

abbrev pub neg_f : Float → Float
neg_f x = Ieee.neg x

-- +0 and 1, by their bits
abbrev pub zero_f : Float
zero_f = of_bits binary64 0

abbrev pub one_f : Float
one_f = of_bits binary64 0x3ff0_0000_0000_0000

-- ---- numbers

-- (0, 0): where sums start
unfoldable pub zero_number : C64
zero_number = record { re = zero_f; im = zero_f }

-- (1, 0): where products start, and the phase inside the lattice
unfoldable pub one_number : C64
one_number = record { re = one_f; im = zero_f }

-- (a, b) + (c, d) = (a + c, b + d)
unfoldable pub sum : C64 → C64 → C64
sum x y = record { re = add_f x.re y.re; im = add_f x.im y.im }

-- (a, b) - (c, d) = (a - c, b - d)
unfoldable pub difference : C64 → C64 → C64
difference x y = record { re = sub_f x.re y.re; im = sub_f x.im y.im }

-- (a, b) (c, d) = (a c - b d, a d + b c)
unfoldable pub product : C64 → C64 → C64
product x y =
    record { re = sub_f (mul_f x.re y.re) (mul_f x.im y.im); im = add_f (mul_f x.re y.im) (mul_f x.im y.re) }

-- the n of the rules below: c c + d d
unfoldable pub squares : C64 → Float
squares y = add_f (mul_f y.re y.re) (mul_f y.im y.im)

-- (a, b) / (c, d) = ((a c + b d) / n, (b c - a d) / n)
unfoldable pub quotient : C64 → C64 → C64
quotient x y =
    record {
      re = div_f (add_f (mul_f x.re y.re) (mul_f x.im y.im)) (squares y);
      im = div_f (sub_f (mul_f x.im y.re) (mul_f x.re y.im)) (squares y);
    }

-- r / (c, d) = (r c / n, 0 - r d / n)
unfoldable pub real_over : Float → C64 → C64
real_over r y = record { re = div_f (mul_f r y.re) (squares y); im = sub_f zero_f (div_f (mul_f r y.im) (squares y)) }

-- (a, b) / r = (a / r, b / r)
unfoldable pub over_real : C64 → Float → C64
over_real x r = record { re = div_f x.re r; im = div_f x.im r }

-- r (a, b) = (r a, r b)
unfoldable pub real_times : Float → C64 → C64
real_times r x = record { re = mul_f r x.re; im = mul_f r x.im }

-- -(a, b) = (-a, -b): both signs flip
unfoldable pub negation : C64 → C64
negation x = record { re = neg_f x.re; im = neg_f x.im }

-- the conjugate of (a, b) = (a, -b)
unfoldable pub conjugate : C64 → C64
conjugate x = record { re = x.re; im = neg_f x.im }

-- 1 - (a, b) = (1 - a, 0 - b)
unfoldable pub one_minus : C64 → C64
one_minus x = record { re = sub_f one_f x.re; im = sub_f zero_f x.im }

-- the inverse of (c, d) = (c / n, -d / n)
unfoldable pub inverse : C64 → C64
inverse y = record { re = div_f y.re (squares y); im = div_f (neg_f y.im) (squares y) }

-- ---- tests

-- neither infinite nor NaN
unfoldable pub finite_double : Float → Bool
finite_double nan = false
finite_double (inf s) = false
finite_double (fin s m e) = true

unfoldable pub finite : C64 → Bool
finite x = finite_double x.re && finite_double x.im

-- a zero of either sign in both parts
unfoldable pub is_zero : C64 → Bool
is_zero x = Ieee.eq x.re zero_f && Ieee.eq x.im zero_f

-- what a list of numbers is taken to hold past its end, where no definition looks
abbrev pub no_number : C64
no_number = record { re = nan; im = nan }
