-- `store::transfers::next_offsets` meets its contract.
-- Assumes nothing.
use Prim.Native.Nat.{ℕ, ◌+◌}
use mathlib.Core.Path.{ap, ◌∙◌}
use native.Mathlib.Omega.{arith}
use lib.ListN.{get_or}
use Rattle.store.proofs.TransferLaws.{start_small, behind_small, behind_is}
use Rattle.store.proofs.LineLaws.{edges_next}
use Rattle.store.proofs.transfers.next_offsets.Goals as goal

pub overflow_add-s : goal.overflow_add-s
overflow_add-s c = omega (arith, start_small _ c.args.h.now.l.limits _ (c.requires.level_lt_m, c.args.h.now.few) c.requires.o_value c.edges-n.ensures)

pub offset_bounds-starts-s : goal.offset_bounds-starts-s
offset_bounds-starts-s c = omega (arith, start_small _ c.args.h.now.l.limits _ (c.requires.level_lt_m, c.args.h.now.few) c.requires.o_value c.edges-n.ensures)

pub bounds-starts-s : goal.bounds-starts-s
bounds-starts-s c = omega (arith, c.edges-n.ensures, c.requires.level_in_bounds.0)

pub behind-requires : goal.behind-requires
behind-requires c = let n = c.edges-n.ensures in behind_small _ c.args.h.now.l.limits _ (c.requires.level_lt_m, c.args.h.now.few) c.requires.o_value n (edges_next _ _ c.edges-k.ensures) (ap (λ (i : ℕ). get_or c.args.starts.now (c.args.o.s + i) 0) n ∙ c.requires.level_in_bounds.1)

pub returns : goal.returns
returns c = let n = c.edges-n.ensures in c.behind.ensures ∙ behind_is _ c.args.h.now.l.limits _ (c.requires.level_lt_m, c.args.h.now.few) c.requires.o_value n (edges_next _ _ c.edges-k.ensures) (ap (λ (i : ℕ). get_or c.args.starts.now (c.args.o.s + i) 0) n ∙ c.requires.level_in_bounds.1)
