-- Sums over the edges of a grid: component by component, then place by place.
-- Assumes nothing.
use Prim.Native.Nat.{ℕ, ◌+◌, ◌*◌, ◌<◌}
use mathlib.Core.Path.{◌≡◌, sym, ap, ◌∙◌}
use native.Mathlib.Omega.{arith}
use native.Mathlib.Nat.{mul_assoc, mul_comm}
use Rattle.numbers.specs.Lists.{sum_to}
use Rattle.numbers.proofs.SumLaws.{sum_agree, sum_blocks, sum_product}
use Rattle.lattice.specs.declared.grid.Grid3d.{Grid3d}
use Rattle.lattice.specs.declared.grid.Position.{Position}
use Rattle.lattice.specs.Grid.{cells_of, unknowns_of, index_of, at_of, Limits}
use Rattle.lattice.proofs.GridLaws.{at_index}

-- the position of a component and three places
abbrev pub edge_of : ℕ → ℕ → ℕ → ℕ → Position
edge_of c i j k = record { component = c; i = i; j = j; k = k }

-- the sum over a component's edges
abbrev pub over_cells : Grid3d → (Position → ℕ) → ℕ → ℕ
over_cells g f c = sum_to (λ k. sum_to (λ j. sum_to (λ i. f (edge_of c i j k)) g.nx) g.ny) g.nz

cells_turned : (g : Grid3d) → cells_of g ≡ g.nz * g.ny * g.nx
unfolding cells_of
cells_turned g = mul_comm (g.nx * g.ny) g.nz ∙ ap (λ (m : ℕ). g.nz * m) (mul_comm g.nx g.ny) ∙ sym (mul_assoc g.nz g.ny g.nx)

-- of a product over the axes
pub component_product : (g : Grid3d) (f : Position → ℕ) (x y z : ℕ → ℕ) (c : ℕ) → ((i j k : ℕ) → f (edge_of c i j k) ≡ x i * y j * z k) → over_cells g f c ≡ sum_to x g.nx * sum_to y g.ny * sum_to z g.nz
component_product g f x y z c e =
    sum_agree (λ k. sum_to (λ j. sum_to (λ i. f (edge_of c i j k)) g.nx) g.ny) (λ k. sum_to (λ j. sum_to (λ i. x i * y j * z k) g.nx) g.ny) g.nz
    (λ k hk. sum_agree (λ j. sum_to (λ i. f (edge_of c i j k)) g.nx) (λ j. sum_to (λ i. x i * y j * z k) g.nx) g.ny
    (λ j hj. sum_agree (λ i. f (edge_of c i j k)) (λ i. x i * y j * z k) g.nx (λ i hi. e i j k)))
    ∙ sum_product x y z g.nx g.ny g.nz

module _ {g : Grid3d} (l : Limits g) (f : Position → ℕ) where
  edge_at : (c i j k : ℕ) → c < 3 → i < g.nx → j < g.ny → k < g.nz → f (at_of g (c * cells_of g + ((k * g.ny + j) * g.nx + i))) ≡ f (edge_of c i j k)
  unfolding index_of
  edge_at c i j k hc hi hj hk =
      let e : c * cells_of g + ((k * g.ny + j) * g.nx + i) ≡ index_of g (edge_of c i j k) = omega arith in
      ap (λ (r : ℕ). f (at_of g r)) e ∙ ap f (at_index l (record { c_in = hc; i_in = hi; j_in = hj; k_in = hk }))

  component_sum : (c : ℕ) → c < 3 → sum_to (λ q. f (at_of g (c * cells_of g + q))) (cells_of g) ≡ over_cells g f c
  component_sum c hc =
      ap (sum_to (λ q. f (at_of g (c * cells_of g + q)))) (cells_turned g)
      ∙ sum_blocks (λ q. f (at_of g (c * cells_of g + q))) (g.nz * g.ny) g.nx
      ∙ sum_blocks (λ b. sum_to (λ i. f (at_of g (c * cells_of g + (b * g.nx + i)))) g.nx) g.nz g.ny
      ∙ sum_agree (λ k. sum_to (λ j. sum_to (λ i. f (at_of g (c * cells_of g + ((k * g.ny + j) * g.nx + i)))) g.nx) g.ny)
      (λ k. sum_to (λ j. sum_to (λ i. f (edge_of c i j k)) g.nx) g.ny) g.nz
      (λ k hk. sum_agree (λ j. sum_to (λ i. f (at_of g (c * cells_of g + ((k * g.ny + j) * g.nx + i)))) g.nx) (λ j. sum_to (λ i. f (edge_of c i j k)) g.nx) g.ny
      (λ j hj. sum_agree (λ i. f (at_of g (c * cells_of g + ((k * g.ny + j) * g.nx + i)))) (λ i. f (edge_of c i j k)) g.nx (λ i hi. edge_at c i j k hc hi hj hk)))

  pub grid_sum : sum_to (λ r. f (at_of g r)) (unknowns_of g) ≡ sum_to (over_cells g f) 3
  unfolding unknowns_of
  grid_sum =
      sum_blocks (λ r. f (at_of g r)) 3 (cells_of g)
      ∙ sum_agree (λ c. sum_to (λ q. f (at_of g (c * cells_of g + q))) (cells_of g)) (over_cells g f) 3 component_sum
