-- A list of changes, told two ways: to the store, which computes only what each change reaches; and to a book, which keeps only the values in force and
-- answers as a set-up from them would. Assumes nothing: these are definitions.
use Rattle.std.specs.Prelude.{◌≡◌, List, [], ◌∷◌, ℕ}
use Rattle.std.proofs.Math.Option.{Option, none, some}
use Rattle.numbers.specs.Lists.{In}
use Rattle.store.specs.Space.{Space, Look, puts}
use Rattle.store.specs.Plan.{Rules, run, first_bad, reached, Free}

-- the changes that are told: each sets some base places, its spots; `bad` refuses one before anything is computed, and says why
pub record Edits (X : Space) (Why : Type 0) : Type 1 where
  pub Change : Type 0
  pub spots : Change → List X.P
  pub edit : X.S → Change → X.S
  pub bad : Change → Option Why

-- Bad: refused before any row is computed, and why. NotFinite: the first level that has a number that is not finite
pub data Answer (Why : Type 0) : Type 0 where
  Done : Answer Why
  Bad : Why → Answer Why
  NotFinite : ℕ → Answer Why

-- what a call answers, and the store that it leaves
pub record Outcome (X : Space) (Why : Type 0) : Type 0 where
  pub answer : Answer Why
  pub store : X.S

module _ {X : Space} {Why : Type 0} where
  abbrev pub outcome : Answer Why → X.S → Outcome X Why
  outcome a s = record { answer = a; store = s }

  -- a call that is refused leaves the store `old`
  abbrev pub settle : Option ℕ → X.S → X.S → Outcome X Why
  settle none new old = outcome Done new
  settle (some l) new old = outcome (NotFinite l) old

  abbrev pub gate : Option Why → Outcome X Why → X.S → Outcome X Why
  gate none o old = o
  gate (some why) o old = outcome (Bad why) old

  -- a list of changes: what is left, and the answers
  unfoldable pub after : {C : Type 0} → (X.S → C → Outcome X Why) → X.S → List C → X.S
  after f s [] = s
  after f s (c ∷ cs) = after f (f s c).store cs

  unfoldable pub answers : {C : Type 0} → (X.S → C → Outcome X Why) → X.S → List C → List (Answer Why)
  answers f s [] = []
  answers f s (c ∷ cs) = (f s c).answer ∷ answers f (f s c).store cs

-- a set-up computes every row over the store b, which holds the base values
module _ {X : Space} (R : Rules X) (Why : Type 0) where
  unfoldable pub set_up : X.S → Outcome X Why
  set_up b = settle (first_bad R R.full b) (run R R.full b) b

module _ {X : Space} {Why : Type 0} (R : Rules X) (E : Edits X Why) where
  -- the store: a change computes the rows that it reaches
  unfoldable pub change : X.S → E.Change → Outcome X Why
  change s c =
      let a = E.edit s c in
      let rs = reached R (E.spots c) in
      gate (E.bad c) (settle (first_bad R rs a) (run R rs a) s) s

  -- the book: the value is written down if a set-up from all values would be accepted, and the answer is that set-up's
  unfoldable pub note : X.S → E.Change → Outcome X Why
  note b c =
      let a = E.edit b c in
      gate (E.bad c) (settle (first_bad R R.full a) a b) b

-- the book over values of the caller's own kind, from which `load` makes the store that a set-up starts from
abbrev pub taken : {B Why : Type 0} → Answer Why → B → B → B
taken Done new old = new
taken (Bad why) new old = old
taken (NotFinite l) new old = old

module _ {X : Space} {Why : Type 0} (R : Rules X) (E : Edits X Why) {B : Type 0} (load : B → X.S) (revise : B → E.Change → B) where
  unfoldable pub values_after : B → List E.Change → B
  values_after v [] = v
  values_after v (c ∷ cs) = values_after (taken (note R E (load v) c).answer (revise v c) v) cs

-- what is to be proved of the changes, over stores of the shape h
pub record EditLaws (X : Space) (R : Rules X) (Why : Type 0) (E : Edits X Why) (h : X.Shape) : Type 0 where
  pub kept : (s : X.S) (c : E.Change) → X.shape (E.edit s c) ≡ X.shape s
  -- only its spots change, and what they get does not turn on the store
  pub out : (s : X.S) (c : E.Change) (p : X.P) → (In p (E.spots c) → ⊥) → X.get (E.edit s c) p ≡ X.get s p
  pub sets : (s t : X.S) (c : E.Change) → X.shape s ≡ X.shape t → (p : X.P) → In p (E.spots c) → X.Has (X.shape s) p → X.get (E.edit s c) p ≡ X.get (E.edit t c) p
  -- a change that is not refused sets base places
  pub allowed : (c : E.Change) → E.bad c ≡ none → (p : X.P) → In p (E.spots c) → Free R p × X.Has h p

-- changes of one place each
pub record One (X : Space) : Type 0 where
  pub place : X.P
  pub value : X.Val place

abbrev pub ones : (X : Space) (Why : Type 0) → ((p : X.P) → X.Val p → Option Why) → Edits X Why
ones X Why bad =
    record { Change = One X; spots = λ c. c.place ∷ []; edit = λ s c. X.put s c.place c.value; bad = λ c. bad c.place c.value }

-- changes that write what they say at their spots
abbrev pub said : (X : Space) (Why C : Type 0) → (C → List X.P) → (C → Look X) → (C → Option Why) → Edits X Why
said X Why C spots says bad = record { Change = C; spots = spots; edit = λ s c. puts X s (spots c) (says c); bad = bad }

-- lists of changes that are compared: no two set one place; the same changes, in any order; all accepted
module _ {X : Space} {Why : Type 0} (E : Edits X Why) where
  abbrev pub Distinct : List E.Change → Type 0
  Distinct [] = Unit {0}
  Distinct (c ∷ cs) = ((d : E.Change) → In d cs → (p : X.P) → In p (E.spots c) → In p (E.spots d) → ⊥) × Distinct cs

  abbrev pub SameChanges : List E.Change → List E.Change → Type 0
  SameChanges cs ds = ((c : E.Change) → In c cs → In c ds) × ((c : E.Change) → In c ds → In c cs)

abbrev pub AllDone : {Why : Type 0} → List (Answer Why) → Type 0
AllDone [] = Unit {0}
AllDone (x ∷ xs) = (x ≡ Done) × AllDone xs
