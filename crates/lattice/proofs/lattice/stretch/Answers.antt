use mathlib.Core.Path.{◌≡◌, ◌∙◌, ap}
use mathlib.Core.List.{List}
use Prim.Native.Nat.{ℕ}
use borrow.Author.Tests.{lt-ltb, le-ltb}
use denote.Bor.{Bor}
use lib.Ieee.{Float}
use Rattle.lattice.specs.Grid.{axis3}
use Rattle.lattice.specs.Lattice.{stretch_at}
use Rattle.lattice.proofs.GridLaws.{axis_of}
use Rattle.lattice.proofs.LatticeLaws.{axis_room}
use Rattle.lattice.proofs.lattice.stretch.Goals as goal

-- the list that is picked is the list of the axis
picked : (a : ℕ) (x y z : Bor (List Float)) {r : Bor (List Float)} → r ≡ axis3 a x y z → r.now ≡ axis3 a x.now y.now z.now
picked a x y z e = ap (λ (b : Bor (List Float)). b.now) e ∙ axis_of (λ b. b.now) a x y z

pub get-requires : goal.get-requires
get-requires c = rw (picked _ _ _ _ c.axis3.ensures) (axis_room c.requires _ _ (rw c.n.ensures at c.if-m-n.true))

pub returns-then-m-n : goal.returns-then-m-n
unfolding stretch_at
returns-then-m-n c = rw (lt-ltb _ _ (rw c.n.ensures at c.if-m-n.true), ← picked _ _ _ _ c.axis3.ensures) c.get.ensures

pub returns : goal.returns
unfolding stretch_at
returns c = rw (le-ltb _ _ (rw c.n.ensures at c.if-m-n.false)) c.zero.ensures
