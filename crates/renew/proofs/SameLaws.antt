-- Lists that stay those that were lent, and as long.
-- Assumes nothing.
use Rattle.std.proofs.Common.{ℕ, Float, refl, ◌∙◌}
use lib.ListN.{length-set}
use Rattle.store.specs.Lists.{SameNumbers}
use Rattle.store.specs.Renewed.{Five}
use Rattle.store.specs.Cells.{Chart, set_double, CellsFit}
use Rattle.store.specs.Spots.{Kind, permittivity, forwards, turneds, entries, scales}
use Rattle.store.proofs.CellLaws.{cells_same}
use Rattle.store.specs.declared.lists.Numbers.{Numbers}
use Rattle.renew.specs.Long.{SameLong}

pub same_self : {v : Numbers} → SameNumbers v v
same_self = record { eps = refl; values = refl; tvalues = refl; ovalues = refl; scaling = refl }

pub same_then : {v u t : Numbers} → SameNumbers v u → SameNumbers u t → SameNumbers v t
same_then a b = record { eps = b.eps ∙ a.eps; values = b.values ∙ a.values; tvalues = b.tvalues ∙ a.tvalues; ovalues = b.ovalues ∙ a.ovalues; scaling = b.scaling ∙ a.scaling }

pub long_self : {v : Five} → SameLong v v
long_self = record { e_long = refl; f_long = refl; t_long = refl; o_long = refl; c_long = refl }

pub long_then : {v u t : Five} → SameLong v u → SameLong u t → SameLong v t
long_then a b = record { e_long = b.e_long ∙ a.e_long; f_long = b.f_long ∙ a.f_long; t_long = b.t_long ∙ a.t_long; o_long = b.o_long ∙ a.o_long; c_long = b.c_long ∙ a.c_long }

pub set_long : (v : Five) (k : Kind) (j : ℕ) (x : Float) → SameLong v (set_double v k j x)
set_long v permittivity j x = record { e_long = length-set v.e j x; f_long = refl; t_long = refl; o_long = refl; c_long = refl }
set_long v forwards j x = record { e_long = refl; f_long = length-set v.f j x; t_long = refl; o_long = refl; c_long = refl }
set_long v turneds j x = record { e_long = refl; f_long = refl; t_long = length-set v.t j x; o_long = refl; c_long = refl }
set_long v entries j x = record { e_long = refl; f_long = refl; t_long = refl; o_long = length-set v.o j x; c_long = refl }
set_long v scales j x = record { e_long = refl; f_long = refl; t_long = refl; o_long = refl; c_long = length-set v.c j x }

pub cells_long : {w : Chart} {parts : ℕ} {v u : Five} → SameLong v u → CellsFit w parts v → CellsFit w parts u
cells_long {w} {parts} {v} {u} s = cells_same w parts v u s.e_long s.f_long s.t_long s.o_long s.c_long
