use Rattle.std.proofs.Common.{◌<◌, false, refl}
use Rattle.std.proofs.lemmas.List.{get_or-take, length-take-le}
use native.Mathlib.Omega.{arith}
use Rattle.store.proofs.RaisedLaws.{bits_start, bits_turn, bits_end}
use Rattle.reach.proofs.hits.raise_bits.Goals as goal

pub loop-r-init : goal.loop-r-init
loop-r-init c = (omega arith, bits_start)

pub raise_bit-requires : goal.raise_bit-requires
raise_bit-requires c =
    let n = length-take-le c.args.n c.args.list.now c.requires.0 in
    omega (arith, n, c.loop-r.invariant.1.same_long)

pub loop-r-preserved : goal.loop-r-preserved
loop-r-preserved c =
    let n = length-take-le c.args.n c.args.list.now c.requires.0 in
    let h : c.loop-r.r < c.args.n = omega (arith, n) in
    let z = get_or-take c.args.n c.args.list.now c.loop-r.r false h in
    (omega (arith, h), bits_turn c.loop-r.invariant.1 (rw z at c.raise_bit.ensures))

pub returns : goal.returns
returns c =
    let n = length-take-le c.args.n c.args.list.now c.requires.0 in
    bits_end c.loop-r.invariant.1 (omega (arith, n)) refl
