-- The averaged permittivities and the rediscretized operators, level by level.
-- Assumes nothing.
use Prim.Native.Nat.{ℕ, zero, suc, ◌+◌, ◌≤◌, ◌<◌, ◌^◌}
use mathlib.Core.Path.{◌≡◌, refl, sym, ap, subst, ◌∙◌}
use mathlib.Core.Bool.{Bool, ◌&&◌}
use mathlib.Core.List.{List}
use native.Mathlib.Omega.{arith}
use native.Mathlib.Numerals.{add-one}
use lib.ListN.{length, get_or}
use lib.Ieee.{Float}
use Rattle.numbers.specs.declared.C64.{C64}
use Rattle.numbers.specs.declared.terms.Part.{Part}
use Rattle.numbers.specs.Complex.{no_number}
use Rattle.numbers.specs.Places.{number_at, set_number}
use Rattle.numbers.specs.Lists.{rows, laid_numbers, all_finite, sum_to, read_from}
use Rattle.numbers.specs.Terms.{Term, numbers_of, LaidRows}
use Rattle.numbers.proofs.Equations.{read_from_is}
use Rattle.numbers.proofs.TabulateLaws.{tabulate_at_0}
use Rattle.numbers.proofs.SumLaws.{sum_agree, sum_to_zero, sum_to_suc, sum_most}
use Rattle.numbers.proofs.ListLaws.{laid_numbers_length}
use Rattle.numbers.proofs.TransposedLaws.{laid_count}
use Rattle.numbers.proofs.PartLaws.{laid_next, laid_zero, part_number, part_room, rows_sum, sum_rise}
use Rattle.lattice.specs.Grid.{Limits}
use Rattle.lattice.specs.Lattice.{FullLattice}
use Rattle.lattice.specs.Levels.{three_at}
use Rattle.lattice.specs.Sound.{full}
use Rattle.weights.specs.declared.pair.Pair.{Pair}
use Rattle.operators.specs.LevelLists.{edges_on, rediscretized_next, AveragedGiven, AveragedReady, AveragedLeft}
use Rattle.operators.specs.Levels.{averaged_on, rediscretized_at}
use Rattle.operators.proofs.RediscretizedLevel.{averaged_next_lem, rediscretized_next_lem}
use Rattle.store.specs.Layout.{next_edges, operator_count, operator_off, stored_starts, eps_off, averaged_off}
use Rattle.store.specs.Setup.{averaged_part}
use Rattle.store.specs.Hierarchy.{LevelPair}
use Rattle.store.specs.Phases.{operator_part, noted, first_of, GivenIn, OperatorRoom, OperatorsLeft, operator_fine, AveragedRoom, averaged_fine}
use Rattle.store.specs.PhaseSteps.{behind_of, averaged_from, AveragedPlaces, AveragedIn, AveragedLevel, RediscretizedLeft, RediscretizedDone}
use Rattle.store.specs.declared.Choice.TheVariants.{Rediscretized}
use Rattle.operators.proofs.Equations.{averaged_on_zero}
use Rattle.store.proofs.EndLaws.{edges_next}
use Rattle.store.proofs.StepLaws.{part_at, starts_later, terms_later, operators_next, operators_long, operators_none, operator_second}
use Rattle.store.proofs.SizeLaws.{operator_count_lem, stored_later, averaged_long, stored_rows, eps_low, ostarts_low, operator_low, operator_few, edges_few}

-- ---- small numbers

module _ (l : FullLattice) (limits : Limits l.grid) where
  pub averaged_low : (m L : ℕ) → m ≤ 11 → L ≤ 11 → averaged_off l m L ≤ 282624
  averaged_low m L h k = omega (arith, eps_low l limits (suc m), sum_most (next_edges l) 12288 L (λ i b. edges_few l limits (suc i)))

-- ---- how many permittivities there are

pub chain_is : (l : FullLattice) (m : ℕ) {n : ℕ} → n ≡ sum_to (λ i. edges_on l (0 + i)) (m + 1) → n ≡ eps_off l (suc m)
chain_is l m e =
    e ∙ ap (sum_to (λ i. edges_on l (0 + i))) (add-one m)
    ∙ sum_agree (λ i. edges_on l (0 + i)) (edges_on l) (suc m) (λ i h. let z : 0 + i ≡ i = omega arith in ap (edges_on l) z)

-- ---- one level

-- a level's permittivities end before those of the next
pub averaged_apart : (l : FullLattice) (m L : ℕ) → averaged_from l m L + edges_on l L ≤ averaged_off l m L
averaged_apart l m zero = omega (arith, part_room (edges_on l) 0 (suc m) (omega arith))
averaged_apart l m (suc L) = omega (arith, sum_to_suc (next_edges l) L)

module _ (l : FullLattice) (limits : Limits l.grid) (m L : ℕ) (h : (L < m) × (m ≤ 11)) {from to : ℕ} {o : Part}
    (at : AveragedPlaces l m L from to o) {eps : List Float} (room : AveragedRoom l m eps)
    {pair : Pair} (p : LevelPair l L pair) where
  next_room : averaged_off l m L + edges_on l (suc L) ≤ averaged_off l m m
  next_room = omega (arith, part_room (next_edges l) L m h.0)

  level_given : (g : ℕ → C64) → ((r : ℕ) → r < edges_on l L → read_from eps from r ≡ g r) → AveragedGiven l (three_at l L) (three_at l (suc L)) eps from to g L
  level_given g reads =
      record {
        limits = limits;
        fine_lines = refl;
        coarse_lines = refl;
        chain = record {
          apart = omega (arith, averaged_apart l m L, at.from_is, at.to_is);
          room = omega (arith, next_room, at.to_is, room.room);
          low = omega (arith, at.to_is, averaged_low l limits m L h.1 (omega (arith, h.0, h.1)));
        };
        reads = reads;
      }

  pub level_asked : AveragedReady (full pair.l) pair.fine pair.coarse eps from to o
  level_asked =
      let e = at.part_is in
      let ready : AveragedReady l (three_at l L) (three_at l (suc L)) eps from to o =
      record {
        reader = read_from eps from;
        level = L;
        given = level_given (read_from eps from) (λ r b. refl);
        starts_low = omega (arith, h.0, h.1, ostarts_low l limits m (suc L), ap (λ (o : Part). o.s) e);
        low = omega (arith, h.0, h.1, operator_low l limits Rediscretized m (suc L), ap (λ (o : Part). o.k) e);
      } in
      rw (p.base_is, p.fine_is, p.coarse_is) ready

  pub level_done : {os oc : List ℕ} {ox eps' : List Float} {os' oc' : List ℕ} {ox' : List Float} {b : Bool} → AveragedLeft (full pair.l) pair.fine pair.coarse eps from to o os oc ox eps' os' oc' ox' b
      → AveragedLevel l m L eps os oc ox eps' os' oc' ox' b
  unfolding averaged_fine operator_fine
  level_done {os} {oc} {ox} {eps'} {os'} {oc'} {ox'} {b} left =
      let z = stored_later m L in
      let d : AveragedLeft l (three_at l L) (three_at l (suc L)) eps from to o os oc ox eps' os' oc' ox' b = rw (p.base_is, p.fine_is, p.coarse_is) at left in
      record {
        averaged = λ f u.
            d.averaged (averaged_on l f L) L (given_by f u)
            ∙ (λ i. laid_numbers eps (at.to_is i) (averaged_next_lem l f L i));
        operator = λ f u.
            subst (λ (row : ℕ → List Term). LaidRows row (edges_on l (suc L)) os (stored_starts l m (suc L)) oc ox (operator_off l Rediscretized m (suc L)) os' oc' ox')
            (rediscretized_next_lem l f L)
            (subst (λ (o : Part). LaidRows (rediscretized_next l (averaged_on l f L) L) (edges_on l (suc L)) os o.s oc ox o.k os' oc' ox')
            at.part_is (d.operator (averaged_on l f L) L (given_by f u)));
        finite = λ f u.
            d.finite (averaged_on l f L) L (given_by f u)
            ∙ (λ i. all_finite (averaged_next_lem l f L i) && all_finite (numbers_of (rows (rediscretized_next_lem l f L i) (edges_on l (suc L)))))
            ∙ rw z refl;
      }
    where
      given_by : (f : ℕ → C64) → AveragedIn l f m L eps → AveragedGiven l (three_at l L) (three_at l (suc L)) eps from to (averaged_on l f L) L
      given_by f u = level_given (averaged_on l f L) (λ r b. ap (λ (k : ℕ). read_from eps k r) at.from_is ∙ u.reads r b)

-- ---- level by level

-- what was laid for level L stands there
pub averaged_in_lem : (l : FullLattice) (f : ℕ → C64) (m L : ℕ) → L ≤ m → {eps₀ eps : List Float} → AveragedRoom l m eps₀ → GivenIn l f eps₀
    → eps ≡ laid_numbers eps₀ (eps_off l (suc m)) (rows (averaged_part l f) L) → AveragedIn l f m L eps
averaged_in_lem l f m zero h {eps₀} {eps} room u e =
    record {
      reads = λ r b.
          ap (λ (xs : List Float). read_from xs 0 r) (e ∙ sym (laid_zero set_number eps₀ (averaged_part l f) (eps_off l (suc m))))
          ∙ u.reads r b ∙ sym (ap (λ (g : ℕ → C64). g r) (averaged_on_zero l f));
    }
averaged_in_lem l f m (suc K) h {eps₀} {eps} room u e =
    record {
      reads = λ r b.
          let k = eps_off l (suc m) in
          let z : averaged_off l m K + r ≡ k + (sum_to (next_edges l) K + r) = omega arith in
          read_from_is eps (averaged_off l m K) r
          ∙ (λ i. number_at (e i) (z i))
          ∙ part_number (averaged_part l f) (next_edges l) (averaged_long l f) eps₀ k (suc K) (omega (arith, room.room, sum_rise (next_edges l) (suc K) m h)) K r (k + (sum_to (next_edges l) K + r)) no_number refl (omega arith) b
          ∙ tabulate_at_0 (averaged_on l f (suc K)) (edges_on l (suc K)) r no_number b;
    }

pub record Averaging (l : FullLattice) (m : ℕ) (eps₀ : List Float) (os₀ oc₀ : List ℕ) (ox₀ : List Float) (eps : List Float) (os oc : List ℕ) (ox : List Float)
    (from to : ℕ) (o : Part) (bad L : ℕ) : Type 0 where
  pub high : L ≤ m
  pub places : AveragedPlaces l m L from to o
  pub done : RediscretizedDone l m L eps₀ os₀ oc₀ ox₀ eps os oc ox bad

module _ (l : FullLattice) (m : ℕ) {eps₀ : List Float} {os₀ oc₀ : List ℕ} {ox₀ : List Float} where
  pub averaging_start : 0 < m → {to : ℕ} → to ≡ eps_off l (suc m) → Averaging l m eps₀ os₀ oc₀ ox₀ eps₀ os₀ oc₀ ox₀ 0 to (record { s = 0; k = 0 }) 0 0
  unfolding first_of
  averaging_start h {to} e =
      let p = operator_second l Rediscretized m h in
      record {
        high = omega arith;
        places = record { from_is = refl; to_is = omega (arith, e, sum_to_zero (next_edges l)); part_is = sym (λ i. part_at (p.0 i) (p.1 i)) };
        done = record {
          left = λ f u.
              record {
                eps_are = laid_zero set_number eps₀ (averaged_part l f) (eps_off l (suc m));
                operators_are = operators_none l Rediscretized f m h os₀ oc₀ ox₀;
                bad_is = refl;
              };
        };
      }

  module _ (limits : Limits l.grid) (deep : m ≤ 11) (room : AveragedRoom l m eps₀) (rooms : OperatorRoom l Rediscretized m os₀ oc₀ ox₀)
      {eps : List Float} {os oc : List ℕ} {ox : List Float} {from to : ℕ} {o : Part} {bad L : ℕ} (w : Averaging l m eps₀ os₀ oc₀ ox₀ eps os oc ox from to o bad L) where
    -- the permittivities that the list itself has at its front
    first_left : RediscretizedLeft l (read_from eps₀ 0) m L eps₀ os₀ oc₀ ox₀ eps os oc ox bad
    first_left = w.done.left (read_from eps₀ 0) (record { reads = λ r h. refl })

    pub averaging_long : (length eps ≡ length eps₀) × (length os ≡ length os₀) × (length oc ≡ length oc₀) × (length ox ≡ length ox₀)
    averaging_long =
        let k = operators_long l Rediscretized m (read_from eps₀ 0) L first_left.operators_are in
        (ap length first_left.eps_are ∙ laid_numbers_length eps₀ (eps_off l (suc m)) (rows (averaged_part l (read_from eps₀ 0)) L), k.0, k.1, k.2)

    pub averaging_room : AveragedRoom l m eps
    averaging_room = record { room = omega (arith, averaging_long.0, room.room) }

    pub averaging_end : m ≤ L → RediscretizedDone l m m eps₀ os₀ oc₀ ox₀ eps os oc ox bad
    averaging_end h = let z : L ≡ m = omega (arith, w.high) in rw z at w.done

    module _ (h : L < m) {eps' : List Float} {os' oc' : List ℕ} {ox' : List Float} {b : Bool} (d : AveragedLevel l m L eps os oc ox eps' os' oc' ox' b)
        {n : ℕ} (count : n ≡ edges_on l (L + 1)) where
      e : n ≡ edges_on l (suc L)
      e = edges_next l L count

      in_eps : (f : ℕ → C64) → GivenIn l f eps₀ → AveragedIn l f m L eps
      in_eps f u = averaged_in_lem l f m L w.high room u (w.done.left f u).eps_are

      pub to_fits : to + n ≤ 2 ^ 32
      to_fits = omega (arith, e, w.places.to_is, averaged_low l limits m L deep (omega arith), edges_few l limits (suc L))

      laid_rows : LaidRows (rediscretized_at l (read_from eps₀ 0) (suc L)) (edges_on l (suc L))
          os (stored_starts l m (suc L)) oc ox (operator_off l Rediscretized m (suc L)) os' oc' ox'
      laid_rows = d.operator (read_from eps₀ 0) (in_eps (read_from eps₀ 0) (record { reads = λ r h. refl }))

      starts_room : stored_starts l m (suc L) + edges_on l (suc L) < length os
      starts_room = omega (arith, starts_later l Rediscretized m L, sum_rise (stored_rows l m) (suc (suc L)) (suc m) (omega arith), rooms.starts_room, averaging_long.1)

      -- the starts of the level's rows stand in the list, and their last is the count
      count_is : get_or os' (stored_starts l m (suc L) + edges_on l (suc L)) 0 ≡ operator_count l Rediscretized (suc L)
      count_is = laid_count laid_rows starts_room ∙ operator_count_lem l Rediscretized (read_from eps₀ 0) (suc L)

      left_next : (f : ℕ → C64) → GivenIn l f eps₀ → OperatorsLeft l Rediscretized f m (suc L) os₀ oc₀ ox₀ os' oc' ox'
      left_next f u = operators_next l Rediscretized m f L (w.done.left f u).operators_are (d.operator f (in_eps f u))

      pub behind_asked : (o.s + n < length os') × (o.k + get_or os' (o.s + n) 0 ≤ 2 ^ 40)
      behind_asked =
          let long = operators_long l Rediscretized m (read_from eps₀ 0) (suc L) (left_next (read_from eps₀ 0) (record { reads = λ r h. refl })) in
          rw (w.places.part_is, e) (
            omega (arith, starts_room, long.0, averaging_long.1),
            omega (arith, count_is, operator_low l limits Rediscretized m (suc L), operator_few l limits Rediscretized (suc L)),
          )

      pub averaging_turn : {o' : Part} {bad' : ℕ} → o' ≡ behind_of o n os' → bad' ≡ noted bad L b → Averaging l m eps₀ os₀ oc₀ ox₀ eps' os' oc' ox' to (to + n) o' bad' (L + 1)
      unfolding first_of
      averaging_turn {o'} {bad'} oe be =
          let z : L + 1 ≡ suc L = omega arith in
          rw z
          (record {
            high = h;
            places = record { from_is = w.places.to_is; to_is = omega (arith, w.places.to_is, e, sum_to_suc (next_edges l) L); part_is = part_next };
            done = record {
              left = λ f u.
                  let v = w.done.left f u in
                  let k = rows_sum (averaged_part l f) (next_edges l) (averaged_long l f) L in
                  record {
                    eps_are = d.averaged f (in_eps f u) ∙ ap (λ (xs : List Float). laid_numbers xs (averaged_off l m L) (averaged_part l f L)) v.eps_are
                        ∙ laid_next set_number eps₀ (averaged_part l f) (eps_off l (suc m)) L (averaged_off l m L) (omega arith);
                    operators_are = left_next f u;
                    bad_is = be ∙ (λ i. noted (v.bad_is i) L (d.finite f (in_eps f u) i));
                  };
            };
          })
        where
          part_next : o' ≡ operator_part l Rediscretized m (suc (suc L))
          part_next =
              let s : stored_starts l m (suc L) + edges_on l (suc L) + 1 ≡ stored_starts l m (suc (suc L)) = omega (arith, starts_later l Rediscretized m L) in
              let k : operator_off l Rediscretized m (suc L) + get_or os' (stored_starts l m (suc L) + edges_on l (suc L)) 0 ≡ operator_off l Rediscretized m (suc (suc L)) =
              omega (arith, count_is, terms_later l Rediscretized m L) in
              oe ∙ (λ i. behind_of (w.places.part_is i) (e i) os') ∙ (λ i. part_at (s i) (k i))
