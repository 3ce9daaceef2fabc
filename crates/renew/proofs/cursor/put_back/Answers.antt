use Rattle.std.proofs.Common.{◌<◌, ◌≡◌, ◌∙◌, ap, get_or}
use Rattle.std.specs.Float.{nan}
use Rattle.std.proofs.lemmas.List.{get_or-take, get_or-drop, length-take, length-drop}
use lib.Ieee.{Float}
use native.Mathlib.Omega.{arith}
use Rattle.store.specs.Cells.{kind_in, set_double}
use Rattle.renew.specs.Long.{SameLong}
use Rattle.renew.proofs.SameLaws.{same_self, same_then, long_self, long_then, set_long, cells_long}
use Rattle.store.specs.Lists.{five_of}
use Rattle.store.proofs.CellLaws.{putting_start, putting_some, putting_turn, putting_end}
use Rattle.renew.proofs.cursor.put_back.Goals as goal

pub loop-x-init : goal.loop-x-init
loop-x-init c = (putting_start c.requires.cursor_in c.requires.cells_fit, same_self, long_self)

pub write-requires : goal.write-requires
write-requires c =
    let h : c.loop-x.x-index < c.args.n = omega (arith, length-take {A = Float}, length-drop {A = Float}, c.requires.n_bound.0, c.requires.len) in
    let s = putting_some (five_of c.loop-x.v) c.loop-x.c c.loop-x.x-index c.loop-x.invariant.0 h c.requires.n_bound.1 in let h = c.loop-x.invariant.0.within.there (λ z. omega (arith, z, s)) _ c.loop-x.invariant.0.fits in omega (arith, h, s)

pub step-c-requires : goal.step-c-requires
step-c-requires c =
    let h : c.loop-x.x-index < c.args.n = omega (arith, length-take {A = Float}, length-drop {A = Float}, c.requires.n_bound.0, c.requires.len) in
    (c.loop-x.invariant.0.within, putting_some (five_of c.loop-x.v) c.loop-x.c c.loop-x.x-index c.loop-x.invariant.0 h c.requires.n_bound.1)

pub loop-x-preserved : goal.loop-x-preserved
loop-x-preserved c =
    let h : c.loop-x.x-index < c.args.n = omega (arith, length-take {A = Float}, length-drop {A = Float}, c.requires.n_bound.0, c.requires.len) in
    let t : five_of c.write.new.v ≡ set_double (five_of c.loop-x.v) (kind_in c.loop-x.c.list) c.loop-x.c.at (get_or c.args.old.now c.loop-x.x-index nan) =
    c.write.ensures.left ∙ ap (set_double (five_of c.loop-x.v) (kind_in c.loop-x.c.list) c.loop-x.c.at) (grind (arith, get_or-take {A = Float}, get_or-drop {A = Float})) in
    let u : SameLong (five_of c.loop-x.v) (five_of c.write.new.v) = rw c.write.ensures.left (set_long (five_of c.loop-x.v) (kind_in c.loop-x.c.list) c.loop-x.c.at _) in (
      putting_turn (five_of c.loop-x.v) _ c.loop-x.c c.step-c.result c.loop-x.x-index c.loop-x.invariant.0 h t (cells_long u c.loop-x.invariant.0.fits) c.step-c.ensures,
      same_then c.loop-x.invariant.1 c.write.ensures.same,
      long_then c.loop-x.invariant.2 u,
    )

pub returns-clause-same : goal.returns-clause-same
returns-clause-same c = c.loop-x.invariant.1

pub returns-clause-long : goal.returns-clause-long
returns-clause-long c = c.loop-x.invariant.2

pub returns-clause-left : goal.returns-clause-left
returns-clause-left c =
    putting_end (five_of c.loop-x.v) c.loop-x.c c.loop-x.x-index c.loop-x.invariant.0 (omega (arith, length-take {A = Float}, length-drop {A = Float}, c.requires.n_bound.0, c.requires.len))
