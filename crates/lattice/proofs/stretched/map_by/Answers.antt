use native.Mathlib.Omega.{arith}
use mathlib.Core.Path.{◌∙◌, ap}
use Rattle.numbers.specs.Complex.{real_times}
use Rattle.lattice.specs.Stretched.{half_f}
use Rattle.lattice.proofs.MapLaws.{mapping_start, mapping_turn, mapping_end}
use Rattle.lattice.proofs.stretched.map_by.Goals as goal

pub loop-p-init : goal.loop-p-init
loop-p-init g c = (omega arith, λ s h. mapping_start c.zero-x.ensures c.zero-here.ensures)

pub loop-p-preserved : goal.loop-p-preserved
loop-p-preserved g c = (
  omega arith,
  λ s h.
      mapping_turn (c.loop-p.invariant.1 s h) (omega arith)
      (c.mul.ensures ∙ ap (real_times half_f) (h _ _ (omega arith) c.stretch.ensures)) c.add-here.ensures,
)

pub returns : goal.returns
returns g c = λ s h. mapping_end (c.loop-p.invariant.1 s h) (omega arith) c.requires.n_bound
