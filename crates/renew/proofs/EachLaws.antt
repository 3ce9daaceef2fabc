-- The flagged rows of a part worked out by a step at each: as the definitions of a change say it.
-- Assumes nothing.
use Rattle.std.proofs.Common.{◌≡◌, ℕ, zero, suc, ◌+◌, ◌*◌, ◌^◌, ◌<◌, ◌≤◌, Bool, true, false, List, Float, length, Result, Ok, Err, refl, sym, ap, subst, ◌∙◌, arith}
use Rattle.lattice.specs.Lattice.{FullLattice}
use Rattle.store.specs.Parts.{row_by, size_by, flagged_to, flagged_part}
use Rattle.store.specs.Rows.{Row, level}
use Rattle.store.specs.Renewed.{Fixed, Five, Renewed}
use Rattle.store.specs.Flagged.{PartFlags, RowRenewed, RowTaken, Made, RenewedIn}
use Rattle.store.specs.declared.Choice.{Choice}
use Rattle.store.proofs.FlaggedLaws.{part_size_lem, renewed_none, renewed_go, renewed_stop}
use Rattle.store.proofs.RenewTransferLaws.{part_end, row_level}
use Rattle.renew.specs.Codes.{code_of}
use Rattle.renew.specs.Each.{Step, Gives, TakenBy, Ran, EachRow}
use Rattle.renew.specs.declared.NotFinite.{NotFinite}

-- put sets the list among the five, and a call works out its row
module _ {F : Type 0} (g : Step F) (f : F) (l : FullLattice) (ch : Choice) (m : ℕ) (x : Fixed) (row : ℕ → Row) (flags : List ℕ) (base n : ℕ) (put : List Float → Five) (xs : List Float)
    (made : (r : ℕ) (zs : List Float) (b : Bool) (ys : List Float) → r < n → length zs ≡ length xs → Gives g f zs r b ys → RowRenewed l ch m x (row r) (put zs) b (put ys)) where
  row_taken : (r : ℕ) (zs : List Float) (b : Bool) (ys : List Float) → r < n → length zs ≡ length xs → TakenBy g f flags base r zs b ys
      → RowTaken l ch m x flags (base + r) (row r) (put zs) b (put ys)
  row_taken r zs b ys h k t =
      record {
        left = λ e. ((t.left e).0, ap put (t.left e).1);
        taken = λ e. made r zs b ys h k (t.taken e);
      }

  ran : (r : ℕ) (ys : List Float) → r ≤ n → Ran g f flags base r xs ys → (length ys ≡ length xs) × Renewed l ch m x (flagged_to row flags base r) (put xs) 0 (put ys)
  ran zero ys h e = rw e (refl, renewed_none l ch m x row flags base (put xs))
  ran (suc r) ys h (zs, p, t) =
      let k : r < n = omega arith in
      let q = ran r zs (omega arith) p in
      (t.same_long ∙ q.0, renewed_go l ch m x row flags base r (put xs) (put zs) (put ys) q.1 (row_taken r zs true ys k q.0 t))

  -- all of n rows that count as rows of one level
  pub each_renewed : (lv : ℕ) → ((r : ℕ) → level l ch m (row r) ≡ lv) → (a : Result (Unit {0}) NotFinite) (ys : List Float) → EachRow g f flags base n lv xs a ys
      → Renewed l ch m x (flagged_to row flags base n) (put xs) (code_of a) (put ys)
  each_renewed lv same (Ok u) ys e = (ran n ys (omega arith) e).1
  each_renewed lv same (Err e) ys (is, s) =
      let q = ran s.row s.before (omega (arith, s.low)) s.ran in
      let z : suc e.0 ≡ suc (level l ch m (row s.row)) = ap suc (is ∙ sym (same s.row)) in
      renewed_stop l ch m x row flags base s.row n (suc e.0) (put xs) (put s.before) (put ys) s.low z q.1 (row_taken s.row s.before false ys s.low q.0 s.bad)

-- the flags of n rows of kind k of a transfer are there
module _ {l : FullLattice} {ch : Choice} {m base : ℕ} {flags : List ℕ} (L k n : ℕ) (h : k < 7) (f : PartFlags l ch m (suc (7 * L + k)) base flags) (e : n ≡ size_by l ch k L) where
  pub flags_lie : n ≤ 2 ^ 40 → (base ≤ 2 ^ 40) × (n ≤ 2 ^ 40) × (base + n ≤ 64 * length flags)
  flags_lie d = (omega (arith, f.low), d, omega (arith, f.there, part_size_lem l ch m L k h, e))

-- the rows of kind k of a transfer, of a function that sees some of the lists only
module _ {F : Type 0} {g : Step F} {f : F} {l : FullLattice} {ch : Choice} {m base : ℕ} {flags : List ℕ} (L k n : ℕ) (h : k < 7) (w : PartFlags l ch m (suc (7 * L + k)) base flags) (e : n ≡ size_by l ch k L)
    {xs : List Float} {lv : ℕ} (c : lv ≡ L + 1) (a : Result (Unit {0}) NotFinite) {ys : List Float} (d : EachRow g f flags base n lv xs a ys) where
  pub part_renewed : (put : Five → List Float → Five)
      → ((r : ℕ) (zs : List Float) (b : Bool) (ts : List Float) → r < n → length zs ≡ length xs → Gives g f zs r b ts → Made l ch m (row_by k L r) put zs b ts)
      → RenewedIn l ch m (flagged_part l ch m flags (suc (7 * L + k))) put xs (code_of a) ys
  part_renewed put made =
      subst (λ (rs : List Row). RenewedIn l ch m rs put xs (code_of a) ys) (part_end L k n h w e)
      (record {
        each = λ x v.
            each_renewed g f l ch m x (row_by k L) flags base n (put v) xs (λ r zs b ts low same y. (made r zs b ts low same y).each x v)
            lv (λ r. row_level l ch m k L r ∙ (omega (arith, c))) a ys d;
      })
