use lib.Ieee.{binary64, of_bits}
use lib.ListN.{length-replicate}
use Rattle.lattice.proofs.LatticeLaws.{full_lattice_is}
use Rattle.lattice.proofs.lattice.stretches.Goals as goal

pub returns : goal.returns
returns c =
    let a = c.args in
    full_lattice_is a.v a.on.now.xn.now a.on.now.xh.now a.on.now.yn.now a.on.now.yh.now a.on.now.zn.now a.on.now.zh.now (length-replicate 768 (of_bits binary64 0))
    c.lay_stretches.ensures c.lay_stretches-2.ensures
