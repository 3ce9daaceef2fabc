-- The machine of the reading: what a setup and a change bring about.
-- Assumes nothing.
use Prim.Native.Nat.{ℕ, ◌<◌, ◌≤◌}
use mathlib.Core.Path.{◌≡◌, refl, ap, ◌∙◌}
use mathlib.Core.List.{List}
use borrow.Author.Tests.{lt-ltb, le-ltb}
use lib.ListN.{get_or}
use lib.Ieee.{Float}
use mathlib.Core.Logic.{◌⊎◌, inl, inr}
use Rattle.std.specs.Prelude.{Some, Result}
use Rattle.numbers.specs.Places.{set_number}
use Rattle.programs.specs.declared.kinds.Kind.{Kind}
use Rattle.programs.specs.declared.kinds.Kind.TheVariants.{Stretch, Permittivity}
use Rattle.numbers.specs.declared.C64.{C64}
use Rattle.lattice.specs.declared.lattice.Lattice.{Lattice}
use Rattle.store.specs.Store.{Store}
use Rattle.store.specs.Setup.{Input, result_of, input_on, setup_of}
use Rattle.store.specs.Steps.{answer_of}
use Rattle.store.specs.Calls.{change_of}
use Rattle.store.specs.ChangeSteps.{changed_of, change_to}
use Rattle.store.specs.declared.change.Refusal.{Refusal as ChangeRefusal}
use Rattle.store.specs.declared.setup.Refusal.{Refusal}
use Rattle.programs.specs.Bytes.{word32, pair_at}
use Rattle.programs.specs.Records.{lattice_of, input_read, input_with, given_read}
use Rattle.store.specs.Lists.{SameLists}
use Rattle.store.specs.declared.lists.Lists.{Lists}
use Rattle.programs.specs.Reading.{told_by, said, answered, out_of_turn, number_read, choice_read, machine, ran, setup_run, change_run, number_run, closed_by}
use Rattle.programs.specs.declared.reader.Begun.{Begun}
use Rattle.programs.specs.declared.reader.Reader.{Reader}
use Rattle.store.specs.declared.told.Told.{Told}
use Rattle.programs.specs.declared.records.Seen.{Seen}
use Rattle.lattice.specs.declared.input.Stretches.{Stretches}

-- the input that the code puts together
pub input_found : (s : Seen) (l : Stretches) {v : Lattice} {i : Input} → v ≡ lattice_of s → input_with s l ≡ i
    → input_on v l s.choice s.coarsest ≡ i
input_found s l e f = ap (λ (v : Lattice). input_on v l s.choice s.coarsest) e ∙ f

module _ (r : Reader) (o : Begun) (held : List Float) (s : Store) where
  pub setup_refused : {u : Reader} → 1 < get_or o.body 0 0 → u ≡ out_of_turn r o.start → machine u held s ≡ setup_run r o held s
  unfolding setup_run
  setup_refused h p = ap (λ (u : Reader). machine u held s) p ∙ rw (lt-ltb 1 (get_or o.body 0 0) h) refl

  -- d: the reader with the choice; a: what the setup answers
  pub setup_ran : {u d : Reader} {t : Told} {w : Result ℕ Told} {after : Store} {i : Input} {g : List Float} (a : Result ℕ Refusal)
      → get_or o.body 0 0 ≤ 1 → d ≡ choice_read r o.body → i ≡ input_read d.seen held → g ≡ given_read d.seen held
      → result_of (answer_of a) after ≡ setup_of i g s → t ≡ told_by (answer_of a) → w ≡ said t → u ≡ answered d w
      → machine u held after ≡ setup_run r o held s
  unfolding setup_run choice_read given_read
  setup_ran {u} {d} {t} {w} {after} {i} {g} a h k p q f b l m =
      (λ j. machine ((m ∙ ap (answered d) (l ∙ ap said b)) j) held after)
      ∙ (ap (ran d held) (f ∙ (λ j. setup_of (p j) (q j) s))
      ∙ (ap (λ (c : Reader). ran c held (setup_of (input_read c.seen held) (given_read c.seen held) s)) k
      ∙ rw (le-ltb 1 (get_or o.body 0 0) h) refl))

module _ (r : Reader) (b : List ℕ) (held : List Float) (s : Store) where
  pub change_ran : {u : Reader} {t : Told} {w : Result ℕ Told} {after : Store} {i : Input} {k : ℕ} {v : C64} (a : Result ℕ ChangeRefusal)
      → i ≡ input_read r.seen held → k ≡ word32 b 0 → v ≡ pair_at b 4
      → result_of (changed_of a) after ≡ change_of i s (change_to k v) → t ≡ told_by (changed_of a) → w ≡ said t → u ≡ answered r w
      → machine u held after ≡ change_run r b held s
  unfolding change_run
  change_ran {u} {t} {w} {after} a p e q f b' l m =
      (λ j. machine ((m ∙ ap (answered r) (l ∙ ap said b')) j) held after) ∙ ap (ran r held) (f ∙ (λ j. change_of (p j) s (change_to (e j) (q j))))

-- ---- a number

module _ (limit : ℕ) (r : Reader) (o : Begun) (held : List Float) (s : Store) where
  pub number_closed : (k : Kind) → (k ≡ Stretch) ⊎ (k ≡ Permittivity)
      → machine (number_read r) (set_number held r.seen.count (pair_at o.body 0)) s ≡ closed_by (Some k) limit r o held s
  unfolding number_run
  number_closed k (inl e) = rw e refl
  number_closed k (inr e) = rw e refl

-- ---- the lists that were lent

pub same_lists : (l : Lists) → SameLists l l
same_lists l = record { ends = refl; eps = refl; starts = refl; columns = refl; values = refl; tstarts = refl; tcolumns = refl; tvalues = refl; ostarts = refl; ocolumns = refl; ovalues = refl; scaling = refl }

pub still_same : {a b d : Lists} → SameLists a b → SameLists b d → SameLists a d
still_same p q =
    record {
      ends = q.ends ∙ p.ends;
      eps = q.eps ∙ p.eps;
      starts = q.starts ∙ p.starts;
      columns = q.columns ∙ p.columns;
      values = q.values ∙ p.values;
      tstarts = q.tstarts ∙ p.tstarts;
      tcolumns = q.tcolumns ∙ p.tcolumns;
      tvalues = q.tvalues ∙ p.tvalues;
      ostarts = q.ostarts ∙ p.ostarts;
      ocolumns = q.ocolumns ∙ p.ocolumns;
      ovalues = q.ovalues ∙ p.ovalues;
      scaling = q.scaling ∙ p.scaling;
    }
