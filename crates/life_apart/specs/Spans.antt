-- The bands of rows in which sets that recur stay, and their columns there.
use Rattle.std.specs.Prelude.{◌≡◌, ◌⊎◌, ℕ, ◌+◌, ◌*◌, ◌<◌, ◌≤◌, ◌^◌, ℤ, pos, ◌+ℤ◌, ◌<ℤ◌, ◌≤ℤ◌}
use Rattle.std.specs.Prelude.{List, length, slice_index_or}
use Rattle.std.specs.List.{All, Contains}
use Rattle.life_model.specs.Cell.{origin}
use Rattle.life_model.specs.Rule.{Rule}
use Rattle.life_objects.specs.Apart.{AreApartForEver}
use Rattle.life_orbit.specs.Course.{Course, IsCourse}
use Rattle.life_orbit.specs.Hulls.{IsHullOf}
use Rattle.life_orbit.specs.declared.hull.Hull.{Hull}
use Rattle.life_apart.specs.declared.span.Span.{Span}

-- the row is one of the 64 rows of the band
pub record IsBandOf (row : ℤ) (band : ℕ) : Type 0 where
  pub first : pos (64 * band) ≤ℤ (row +ℤ pos (2 ^ 32))
  pub last : (row +ℤ pos (2 ^ 32)) <ℤ pos (64 * band + 64)

-- the span, in one band, of the set at this place, which stays in this box
abbrev pub span_at : Hull → ℕ → ℕ → Span
span_at h place band = record { band = band; start = h.left; end = h.right; place = place }

-- there is a span for each band from that of the first row of the box to that of the second row after its last row
pub record HasBands (ss : List Span) (h : Hull) (place : ℕ) : Type 0 where
  pub first : ℕ
  pub last : ℕ
  pub top : IsBandOf h.top first
  pub bottom : IsBandOf (h.bottom +ℤ pos 2) last
  pub each : (band : ℕ) → first ≤ band → band ≤ last → Contains ss (span_at h place band)

-- the set stays in a box, all of whose bands have spans
pub record HasSpans (ss : List Span) (o : Course) (place : ℕ) : Type 0 where
  pub recurs : IsCourse o
  pub box : Hull
  pub has : IsHullOf box o
  pub bands : HasBands ss box place

-- the span is that of one of n sets
abbrev pub IsPlacedIn : ℕ → Span → Type 0
IsPlacedIn n s = s.place < n

-- spans of some of the sets, and all spans of those that stay where they are
pub record AreSpans (os : List Course) (ss : List Span) : Type 0 where
  pub placed : All (IsPlacedIn (length os)) ss
  pub each : (i : ℕ) (e : Course) → i < length os → (slice_index_or os i e).displacement ≡ origin →
      HasSpans ss (slice_index_or os i e) i

-- s is in an earlier band than t, or in the same one and does not begin later
abbrev pub IsUpTo : Span → Span → Type 0
IsUpTo s t = (s.band < t.band) ⊎ ((s.band ≡ t.band) × (s.start ≤ℤ t.start))

-- the spans are in this order
abbrev pub AreRisingSpans : List Span → Type 0
AreRisingSpans ss = (i j : ℕ) (d : Span) → i ≤ j → j < length ss → IsUpTo (slice_index_or ss i d) (slice_index_or ss j d)

-- t is in a later band than s, or begins more than two columns after its end
abbrev pub IsPast : Span → Span → Type 0
IsPast s t = (s.band < t.band) ⊎ ((s.end +ℤ pos 3) ≤ℤ t.start)

-- t is in the same band as s, and begins no more than two columns after its end
pub record IsNext (s t : Span) : Type 0 where
  pub band : s.band ≡ t.band
  pub columns : t.start ≤ℤ (s.end +ℤ pos 2)

-- the sets at two places stay apart for ever, or the places are the same
abbrev pub ArePlacesApart : Rule → List Course → ℕ → ℕ → Type 0
ArePlacesApart R os i j =
    (i ≡ j) ⊎ ((e : Course) → AreApartForEver R (slice_index_or os i e).set (slice_index_or os j e).set)

abbrev pub IsApartFromOthers : Rule → List Course → ℕ → Type 0
IsApartFromOthers R os i = (j : ℕ) → j < length os → ArePlacesApart R os i j

-- a set that moves stays apart for ever from all others
abbrev pub IsStillOrApart : Rule → List Course → ℕ → Type 0
IsStillOrApart R os i = (e : Course) → ((slice_index_or os i e).displacement ≡ origin → ⊥) → IsApartFromOthers R os i

-- each set that moves stays apart from all others
abbrev pub AreMoversApart : Rule → List Course → Type 0
AreMoversApart R os = (i : ℕ) → i < length os → IsStillOrApart R os i

-- the set of a span stays apart for ever from those of the later spans that are near it
abbrev pub IsApartFromLater : Rule → List Course → List Span → ℕ → Type 0
IsApartFromLater R os ss n =
    (k : ℕ) (d : Span) → n < k → k < length ss → IsNext (slice_index_or ss n d) (slice_index_or ss k d) →
    ArePlacesApart R os (slice_index_or ss n d).place (slice_index_or ss k d).place

abbrev pub AreApartInOrder : Rule → List Course → List Span → Type 0
AreApartInOrder R os ss = (n : ℕ) → n < length ss → IsApartFromLater R os ss n
