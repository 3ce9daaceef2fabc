-- `lattice::check::eps_length` meets its contract.
-- Assumes nothing.
use Prim.Native.Nat.{ℕ, ◌*◌}
use mathlib.Core.Path.{sym, ◌∙◌, ap}
use native.Mathlib.Omega.{arith}
use Rattle.lattice.proofs.CheckLaws.{length_bad, length_good, lengths_none}
use Rattle.lattice.proofs.GridLaws.{unknowns_most}
use Rattle.lattice.proofs.check.eps_length.Goals as goal

pub overflow_mul-unknowns : goal.overflow_mul-unknowns
overflow_mul-unknowns c = omega (arith, c.unknowns.ensures, unknowns_most c.requires)

pub returns-then-eps-unknowns : goal.returns-then-eps-unknowns
returns-then-eps-unknowns c = sym (length_bad _ _ _ _ (λ e. c.if-eps-unknowns.true (e ∙ sym (ap (λ (n : ℕ). 2 * n) c.unknowns.ensures))))

pub returns : goal.returns
returns c = sym (length_good _ _ _ _ (c.if-eps-unknowns.false ∙ ap (λ (n : ℕ). 2 * n) c.unknowns.ensures) ∙ lengths_none _)
