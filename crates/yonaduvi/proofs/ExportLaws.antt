-- What the calls leave: what the code finds of a lattice v, by the choice ch, is so of what the call is handed.
-- Assumes nothing.
use Prim.Native.Nat.{ℕ}
use mathlib.Core.Path.{◌≡◌, refl, ap, ◌∙◌}
use mathlib.Core.List.{List, [], ◌∷◌}
use lib.ListN.{length, replicate}
use lib.Ieee.{Float}
use Rattle.numbers.specs.Lists.{laid}
use Rattle.std.specs.Prelude.{Ok, Err, Result as Answer}
use Rattle.lattice.specs.Check.{Verdict, accepted, refused, refusal_of}
use Rattle.lattice.specs.declared.check.Refusal.{Refusal as Refused}
use Rattle.lattice.specs.declared.check.Refusal.TheVariants.{Cells, Scalar, Length, Entry}
use Rattle.lattice.specs.declared.lattice.Lattice.{Lattice}
use Rattle.store.specs.Store.{Store}
use Rattle.store.specs.Setup.{Input, Result, result_of, input_of, setup_of, full_of, transfers_of}
use Rattle.store.specs.FillSteps.{needs_of}
use Rattle.store.specs.Needed.{NeededOf, cells_of, needed_verdict}
use Rattle.store.specs.Steps.{answer_of}
use Rattle.store.specs.Calls.{change_of}
use Rattle.store.specs.ChangeSteps.{changed_of}
use Rattle.store.specs.Changes.{Change}
use Rattle.store.specs.declared.change.Refusal.{Refusal as ChangeRefusal}
use Rattle.store.specs.declared.Choice.{Choice}
use Rattle.store.specs.declared.needed.Needed.{Needed}
use Rattle.store.specs.declared.setup.Refusal.{Refusal}
use Rattle.store.specs.declared.setup.Refusal.TheVariants.{Input as OfInput, TooMany, Twice, Short, NotFinite}
use Rattle.store.specs.declared.told.Told.{Told}
use Rattle.store.specs.Told.{told_by}
use Rattle.programs.specs.Reading.{Machine, machine, fresh, fed_all, answer_words, finished}
use Rattle.programs.specs.declared.reader.Reader.{Reader}
use Rattle.yonaduvi.specs.Exports.{lattice_from, choice_of, input_from, answered, list_left, CallLeft, ReadLeft, needs_words, cells_words, NeedsLeft}

-- ---- answers

-- as two numbers
pub answered_is : (v : Verdict) (out : List ℕ) → laid out 0 ((told_by v).number ∷ ((told_by v).place ∷ [])) ≡ answered v out
answered_is (accepted n) out = refl
answered_is (refused number place) out = refl

-- refusals 1 to 4 leave the lists, the others zero
pub left_input : (c : Refused) (xs vs : List ℕ) → xs ≡ list_left (refusal_of c) xs vs
left_input (Cells place) xs vs = refl
left_input (Scalar place) xs vs = refl
left_input (Length place) xs vs = refl
left_input (Entry place) xs vs = refl

pub left_other : (r : Refusal) (xs vs : List ℕ) → ((c : Refused) → r ≡ OfInput c → ⊥) → replicate (length xs) 0 ≡ list_left (answer_of (Err r)) xs vs
left_other (OfInput c) xs vs n = absurd (n c refl)
left_other TooMany xs vs n = refl
left_other (Twice level) xs vs n = refl
left_other (Short list) xs vs n = refl
left_other (NotFinite level) xs vs n = refl

-- a refusal leaves the same, whichever values there are
pub any_values : (r : Refusal) (xs vs ws : List ℕ) → list_left (answer_of (Err r)) xs vs ≡ list_left (answer_of (Err r)) xs ws
any_values (OfInput (Cells place)) xs vs ws = refl
any_values (OfInput (Scalar place)) xs vs ws = refl
any_values (OfInput (Length place)) xs vs ws = refl
any_values (OfInput (Entry place)) xs vs ws = refl
any_values TooMany xs vs ws = refl
any_values (Twice level) xs vs ws = refl
any_values (Short list) xs vs ws = refl
any_values (NotFinite level) xs vs ws = refl

told_left : (v : Verdict) (out : List ℕ) {t : Told} → t ≡ told_by v → {out' : List ℕ} → out' ≡ laid out 0 (t.number ∷ (t.place ∷ [])) → out' ≡ answered v out
told_left v out e o = o ∙ ap (λ (u : Told). laid out 0 (u.number ∷ (u.place ∷ []))) e ∙ answered_is v out

-- a call that answers w and leaves s
call_left : {r : Result} {w : Verdict} {s : Store} → result_of w s ≡ r → {out out' : List ℕ} → out' ≡ answered w out → CallLeft r out out' s
call_left e {out} o = record { answer_left = o ∙ ap (λ (q : Result). answered q.verdict out) e; store_left = ap (λ (q : Result). q.store) e }

module _ (cells : List ℕ) (scalars xn xh yn yh zn zh : List Float) (choice : ℕ) {v : Lattice} {ch : Choice} (same : v ≡ lattice_from cells scalars)
    (chosen : ch ≡ choice_of choice) (coarsest : ℕ) where
  abbrev own : Input
  own = input_from cells scalars xn xh yn yh zn zh choice coarsest

  -- ---- the setup and the change

  pub setup_left : (given : List Float) (s : Store) {s' : Store} (a : Answer ℕ Refusal) → result_of (answer_of a) s' ≡ setup_of (input_of v xn xh yn yh zn zh ch coarsest) given s
      → {t : Told} → t ≡ told_by (answer_of a) → {out out' : List ℕ} → out' ≡ laid out 0 (t.number ∷ (t.place ∷ [])) → CallLeft (setup_of own given s) out out' s'
  setup_left given s a e p {out = out} o = call_left {w = answer_of a} (rw (← same, ← chosen) e) (told_left (answer_of a) out p o)

  pub change_left : (s : Store) (c : Change) {s' : Store} (a : Answer ℕ ChangeRefusal) → result_of (changed_of a) s' ≡ change_of (input_of v xn xh yn yh zn zh ch coarsest) s c
      → {t : Told} → t ≡ told_by (changed_of a) → {out out' : List ℕ} → out' ≡ laid out 0 (t.number ∷ (t.place ∷ [])) → CallLeft (change_of own s c) out out' s'
  change_left s c a e p {out = out} o = call_left {w = changed_of a} (rw (← same, ← chosen) e) (told_left (changed_of a) out p o)

  -- ---- what it needs

  module _ {r : Answer Needed Refusal}
      (e : NeededOf (full_of (input_of v xn xh yn yh zn zh ch coarsest)) ch (transfers_of (input_of v xn xh yn yh zn zh ch coarsest)) (needed_verdict (input_of v xn xh yn yh zn zh ch coarsest)) r)
    where
      found : NeededOf (full_of own) own.choice (transfers_of own) (needed_verdict own) r
      found = rw (← same, ← chosen) e

  -- where it is not refused
  pub needs_left : {n : Needed} → NeededOf (full_of (input_of v xn xh yn yh zn zh ch coarsest)) ch (transfers_of (input_of v xn xh yn yh zn zh ch coarsest)) (needed_verdict (input_of v xn xh yn yh zn zh ch coarsest)) (Ok n)
      → {out needs counts out' needs' counts' places words : List ℕ} → places ≡ needs_words n.needs → words ≡ cells_words n.cells
      → out' ≡ laid out 0 (0 ∷ (n.cells.levels ∷ [])) → needs' ≡ laid needs 0 places → counts' ≡ laid counts 0 words → NeedsLeft own out needs counts out' needs' counts'
  needs_left {n} d {out = out} {needs = needs} {counts = counts} p w o k c =
      let f = found d in
      let u : accepted n.cells.levels ≡ needed_verdict own = f.answer_is in
      record {
        answer_left = o ∙ ap (λ v. answered v out) u;
        needs_left = k ∙ (λ i. list_left (u i) needs ((p ∙ ap needs_words f.needs_are) i));
        counts_left = c ∙ (λ i. list_left (u i) counts ((w ∙ ap cells_words f.cells_are) i));
      }

  -- where it is refused
  pub needs_refused : {e : Refusal} → NeededOf (full_of (input_of v xn xh yn yh zn zh ch coarsest)) ch (transfers_of (input_of v xn xh yn yh zn zh ch coarsest)) (needed_verdict (input_of v xn xh yn yh zn zh ch coarsest)) (Err e)
      → {t : Told} → t ≡ told_by (answer_of (Err e)) → {out needs counts out' needs' counts' : List ℕ} → out' ≡ laid out 0 (t.number ∷ (t.place ∷ []))
      → needs' ≡ list_left (answer_of (Err e)) needs [] → counts' ≡ list_left (answer_of (Err e)) counts []
      → NeedsLeft own out needs counts out' needs' counts'
  needs_refused {e} d p {out = out} {needs = needs} {counts = counts} o k c =
      let u : answer_of (Err e) ≡ needed_verdict own = (found d).answer_is in
      let places = needs_words (needs_of (full_of own) own.choice (transfers_of own)) in
      let words = cells_words (cells_of (full_of own) (transfers_of own)) in
      record {
        answer_left = told_left (answer_of (Err e)) out p o ∙ ap (λ v. answered v out) u;
        needs_left = k ∙ any_values e needs [] places ∙ ap (λ v. list_left v needs places) u;
        counts_left = c ∙ any_values e counts [] words ∙ ap (λ v. list_left v counts words) u;
      }

-- ---- a file

-- z: the reader at its start; r: behind the last byte; a: what it answers
pub read_left : (limit : ℕ) (bytes out : List ℕ) (held : List Float) (s : Store) {out' : List ℕ} {held' : List Float} {s' : Store} {z r : Reader} (a : Answer ℕ Told)
    → z ≡ fresh → machine r held' s' ≡ fed_all limit (machine z held s) bytes → a ≡ finished r → out' ≡ laid out 0 (answer_words a)
    → ReadLeft (fed_all limit (machine fresh held s) bytes) out out' held' s'
read_left limit bytes out held s {out'} {held'} {s'} {z} {r} a e f g h =
    let m : machine r held' s' ≡ fed_all limit (machine fresh held s) bytes = f ∙ ap (λ (u : Reader). fed_all limit (machine u held s) bytes) e in
    let w : a ≡ finished (fed_all limit (machine fresh held s) bytes).reader = g ∙ ap (λ (k : Machine). finished k.reader) m in
    record {
      answer_left = h ∙ ap (λ (u : Answer ℕ Told). laid out 0 (answer_words u)) w;
      held_left = ap (λ (k : Machine). k.held) m;
      store_left = ap (λ (k : Machine). k.store) m;
    }
