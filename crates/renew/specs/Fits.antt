-- That every look of a walk is within the lists is a proposition: it has one proof at most.
-- Assumes nothing.
use Rattle.std.specs.Prelude.{ℕ, List}
use Rattle.std.specs.Coded.{le_prop}
use mathlib.Core.HLevel.{Π_prop}
use Rattle.store.specs.Cells.{Chart, StartsFit, SpanFits, ChartFits}
use Rattle.store.specs.Spots.{Kind, permittivity, forwards, turneds, entries, scales}

starts_prop : (ss : List ℕ) (s k i : ℕ) → IsProp (StartsFit ss s k i)
starts_prop ss s k i a b = λ j. record { there = le_prop a.there b.there j; rising = le_prop a.rising b.rising j; low = le_prop a.low b.low j }

span_prop : (w : Chart) (k : Kind) (p i : ℕ) → IsProp (SpanFits w k p i)
span_prop w permittivity p i = le_prop
span_prop w forwards p i = starts_prop _ _ _ _
span_prop w turneds p i = starts_prop _ _ _ _
span_prop w entries p i = starts_prop _ _ _ _
span_prop w scales p i = le_prop

pub fits_prop : (w : Chart) (parts : ℕ) → IsProp (ChartFits w parts)
fits_prop w parts a b = λ j. record {
  few = le_prop a.few b.few j;
  long = le_prop a.long b.long j;
  rows_few = Π_prop (λ p. Π_prop (λ _. le_prop)) a.rows_few b.rows_few j;
  bases_few = Π_prop (λ p. Π_prop (λ _. le_prop)) a.bases_few b.bases_few j;
  flags_there = Π_prop (λ p. Π_prop (λ _. le_prop)) a.flags_there b.flags_there j;
  spans = Π_prop (λ p. Π_prop (λ i. Π_prop (λ _. Π_prop (λ _. span_prop w _ p i)))) a.spans b.spans j;
}
