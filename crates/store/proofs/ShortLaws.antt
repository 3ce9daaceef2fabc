-- Refusal 6: the first short list's number is what `short_of` refuses, and where none is short there is room.
-- Assumes nothing.
use Prim.Native.Nat.{ℕ, suc, ◌*◌, ◌/◌, ◌≤◌, ◌<◌}
use mathlib.Core.Path.{◌≡◌, refl, sym, ap, ◌∙◌}
use mathlib.Core.Bool.{Bool, true, false, not}
use mathlib.Core.List.{[], ◌∷◌}
use native.Mathlib.Omega.{arith}
use lib.Dec.{leb}
use borrow.Author.Tests.{le-leb, lt-leb}
use Rattle.std.specs.Prelude.{unwrap_or}
use Rattle.std.specs.List.{position}
use Rattle.lattice.specs.Check.{and_then}
use Rattle.lattice.specs.Grid.{Limits}
use Rattle.lattice.specs.Lattice.{FullLattice}
use Rattle.operators.specs.LevelLists.{edges_on}
use Rattle.store.specs.Store.{Store, sizes}
use Rattle.store.specs.Layout.{next_edges, eps_off, forward_off, turned_off, operator_off, starts_off, stored_starts, ends_off, eps_need, scale_need, Enough}
use Rattle.store.specs.Setup.{room_if, room_of, short_of}
use Rattle.store.specs.Phases.{TransferRoom, OperatorRoom}
use Rattle.store.specs.FillSteps.{needs_of, sizes_of, first_short, short_in, numbered}
use Rattle.store.specs.declared.Choice.{Choice}
use Rattle.store.specs.declared.Choice.TheVariants.{Galerkin, Rediscretized}
use Rattle.store.specs.declared.needs.Lengths.{Lengths}
use Rattle.store.specs.declared.needs.Needs.{Needs}
use Rattle.store.proofs.ColumnLaws.{turned_off_lem}

-- ---- six lists

short_verdict : (a b c d e f : Bool)
    → and_then (room_if 0 a) (and_then (room_if 1 b) (and_then (room_if 2 c) (and_then (room_if 3 d) (and_then (room_if 4 e) (room_if 5 f))))) ≡ numbered (first_short a b c d e f)
short_verdict false b c d e f = refl
short_verdict true false c d e f = refl
short_verdict true true false d e f = refl
short_verdict true true true false e f = refl
short_verdict true true true true false f = refl
short_verdict true true true true true false = refl
short_verdict true true true true true true = refl

-- as the code looks for it
pub short_found : (a b c d e f : Bool) → unwrap_or (position not (a ∷ (b ∷ (c ∷ (d ∷ (e ∷ (f ∷ []))))))) 6 ≡ first_short a b c d e f
short_found false b c d e f = refl
short_found true false c d e f = refl
short_found true true false d e f = refl
short_found true true true false e f = refl
short_found true true true true false f = refl
short_found true true true true true false = refl
short_found true true true true true true = refl

none_short : (a b c d e f : Bool) → first_short a b c d e f ≡ 6 → (a ≡ true) × (b ≡ true) × (c ≡ true) × (d ≡ true) × (e ≡ true) × (f ≡ true)
none_short false b c d e f h = absurd (omega arith)
none_short true false c d e f h = absurd (omega arith)
none_short true true false d e f h = absurd (omega arith)
none_short true true true false e f h = absurd (omega arith)
none_short true true true true false f h = absurd (omega arith)
none_short true true true true true false h = absurd (omega arith)
none_short true true true true true true h = (refl, refl, refl, refl, refl, refl)

-- ---- a list of three

module _ (starts terms hs hc hv : ℕ) where
  pub room_values : starts ≤ hs → terms ≤ hc → leb terms (hv / 2) ≡ room_of starts terms hs hc hv
  room_values p q = rw (le-leb starts hs p, le-leb terms hc q) refl

  pub room_columns : starts ≤ hs → hc < terms → leb terms hc ≡ room_of starts terms hs hc hv
  room_columns p q = rw (le-leb starts hs p, lt-leb terms hc q) refl

  pub room_starts : hs < starts → leb starts hs ≡ room_of starts terms hs hc hv
  room_starts p = rw (lt-leb starts hs p) refl

-- ---- the lists of a store

module _ (l : FullLattice) (limits : Limits l.grid) (ch : Choice) (m : ℕ) (h : Lengths) where
  abbrev turned_room : ℕ → Bool
  turned_room terms = room_of (starts_off (next_edges l) m) terms h.tstarts h.tcolumns h.tvalues

  -- refusal 6 is the first short list
  pub short_is : {n : Needs} {r : ℕ} → n ≡ needs_of l ch m → r ≡ short_in n h → short_of l ch m (sizes_of h) ≡ numbered r
  unfolding short_of
  short_is e p =
      let a = leb (ends_off l (3 * suc m)) h.ends in
      let b = leb (eps_need l ch m) (h.eps / 2) in
      let c = room_of (starts_off (edges_on l) m) (forward_off l m) h.starts h.columns h.values in
      let d = room_of (stored_starts l m (suc m)) (operator_off l ch m (suc m)) h.ostarts h.ocolumns h.ovalues in
      let f = leb (scale_need l ch m) (h.scaling / 2) in
      short_verdict a b c (turned_room (turned_off l m)) d f
      ∙ ap (λ (k : ℕ). numbered (first_short a b c (turned_room k) d f)) (turned_off_lem l limits m)
      ∙ ap numbered (sym (p ∙ ap (λ (n : Needs). short_in n h) e))

-- ---- a store that has room has it for each phase

chain_most : (l : FullLattice) (ch : Choice) (m : ℕ) → eps_off l (suc m) ≤ eps_need l ch m
chain_most l Galerkin m = omega arith
chain_most l Rediscretized m = omega arith

module _ (l : FullLattice) (ch : Choice) (m : ℕ) (b : Store) (enough : Enough l ch m (sizes b)) where
  pub transfer_room : TransferRoom l m b.permittivities b.forward_starts b.forward_columns b.forward_values b.turned_starts b.turned_columns b.turned_values
  transfer_room =
      record {
        eps_room = omega (arith, enough.eps_room, chain_most l ch m);
        forward_starts_are = enough.forward_starts_are;
        forward_columns_are = enough.forward_columns_are;
        forward_values_are = enough.forward_values_are;
        turned_starts_are = enough.turned_starts_are;
        turned_columns_lem = enough.turned_columns_lem;
        turned_values_are = enough.turned_values_are;
      }

  pub operator_room : OperatorRoom l ch m b.operator_starts b.operator_columns b.operator_values
  operator_room = record { starts_room = enough.operator_starts_are; columns_room = enough.operator_columns_are; values_room = enough.operator_values_are }
