-- Sets of which any two stay apart for ever, compared band by band if they stay where they are.
use Rattle.std.proofs.Common.{◌≡◌, ◌⊎◌, ℕ, ◌<◌, List, length, get_or}
use Rattle.std.proofs.Common.{Bool, true, false, inl, inr, refl, sym, subst, ◌∙◌, true≢false, arith}
use Rattle.std.specs.List.{All, AllPairs, Contains}
use Rattle.std.specs.List.Sorted.{IsPermutation}
use Rattle.std.proofs.lemmas.Bool.{cases_lt}
use Rattle.std.proofs.lemmas.List.Sorted.{All-permutation, Contains-permutation}
use Rattle.life_model.specs.Cell.{Cell, origin, same_cell}
use Rattle.life_model.specs.Rule.{Rule}
use Rattle.life_model.proofs.Cells.{same_cell-is}
use Rattle.life_objects.specs.Apart.{AreApartForEver}
use Rattle.life_objects.proofs.Lists.{AllPairs-map, AllPairs-unmap}
use Rattle.life_objects.proofs.Times.{AreApartForEver-swap}
use Rattle.life_orbit.specs.Course.{Course}
use Rattle.life_orbit.proofs.Clearances.{apart_at_rest}
use Rattle.life_apart.specs.Sets.{IsCourseBy, sets_of}
use Rattle.life_apart.specs.Spans.{AreApartInOrder, AreMoversApart, ArePlacesApart, AreSpans, HasSpans, IsPlacedIn}
use Rattle.life_apart.specs.declared.span.Span.{Span}
use Rattle.life_apart.proofs.Bands.{close_apart, far_or_close}

-- if any two sets stay apart for ever, so do those in two places
pub places_apart : (R : Rule) (os : List Course) → AllPairs (AreApartForEver R) (sets_of os) → (i j : ℕ) → i < length os →
    j < length os → ArePlacesApart R os i j
places_apart R os pairs i j within other =
    let each = AllPairs-unmap (AreApartForEver R) (λ o. o.set) os pairs in
    elim (cases_lt i j) [
      | inl before ↦ inr (λ e. each i j e before other)
      | inr more ↦ elim (cases_lt j i) [
        | inl after ↦ inr (λ e. AreApartForEver-swap R (get_or os j e).set (get_or os i e).set (each j i e after within))
        | inr most ↦ inl (omega arith)
      ]
    ]

rests_or_moves : (d : Cell) → (d ≡ origin) ⊎ (d ≡ origin → ⊥)
rests_or_moves d =
    let by : (t : Bool) → same_cell d origin ≡ t → (d ≡ origin) ⊎ (d ≡ origin → ⊥) = elim [
      | true ↦ λ e. inl ((same_cell-is d origin).0 e)
      | false ↦ λ e. inr (λ same. true≢false (sym ((same_cell-is d origin).1 same) ∙ e))
    ] in
    by (same_cell d origin) refl

module _ (R : Rule) (os : List Course) (ss : List Span) (of : All (IsCourseBy R) os) (spans : AreSpans os ss)
    (movers : AreMoversApart R os) (in_order : AreApartInOrder R os ss) where
  -- two places, and the sets there
  module _ (i j : ℕ) (e : Course) (before : i < j) (within : j < length os) where
    abbrev one : Course
    one = get_or os i e

    abbrev other : Course
    other = get_or os j e

    differ : i ≡ j → ⊥
    differ same = absurd (omega arith)

    straight : ArePlacesApart R os i j → AreApartForEver R one.set other.set
    straight places = elim places [
      | inl same ↦ absurd (differ same)
      | inr apart ↦ apart e
    ]

    swapped : ArePlacesApart R os j i → AreApartForEver R one.set other.set
    swapped places = elim places [
      | inl same ↦ absurd (differ (sym same))
      | inr apart ↦ AreApartForEver-swap R other.set one.set (apart e)
    ]

    both_rest : one.displacement ≡ origin → other.displacement ≡ origin → AreApartForEver R one.set other.set
    both_rest rests other_rests =
        let here = spans.each i e (omega arith) rests in
        let there = spans.each j e within other_rests in
        let first : one.rule ≡ R = of i e (omega arith) in
        let second : other.rule ≡ R = of j e within in
        elim (far_or_close here.box there.box) [
          | inl far ↦ subst (λ S. AreApartForEver S one.set other.set) first
              (apart_at_rest one other (first ∙ sym second) here.recurs there.recurs here.box there.box here.has there.has
              rests other_rests far)
          | inr close ↦ elim (close_apart R os ss in_order here.box there.box i j differ close here.bands there.bands) [
            | inl places ↦ straight places
            | inr places ↦ swapped places
          ]
        ]

    pair_apart : AreApartForEver R one.set other.set
    pair_apart =
        elim (rests_or_moves one.displacement) [
          | inr moves ↦ straight (movers i (omega arith) e moves j within)
          | inl rests ↦ elim (rests_or_moves other.displacement) [
            | inr moves ↦ swapped (movers j within e moves i (omega arith))
            | inl other_rests ↦ both_rest rests other_rests
          ]
        ]

  pub all_apart : AllPairs (AreApartForEver R) (sets_of os)
  all_apart =
      AllPairs-map (AreApartForEver R) (λ o. o.set) os (λ i j e before within. pair_apart i j e before (omega arith))

-- ---- more spans

pub spans_kept : (ss ts : List Span) (o : Course) (i : ℕ) → ((s : Span) → Contains ss s → Contains ts s) → HasSpans ss o i →
    HasSpans ts o i
spans_kept ss ts o i kept here = record {
  recurs = here.recurs;
  box = here.box;
  has = here.has;
  bands = record {
    first = here.bands.first;
    last = here.bands.last;
    top = here.bands.top;
    bottom = here.bands.bottom;
    each = λ band from to. kept _ (here.bands.each band from to);
  };
}

-- ---- in another order

pub reordered : (os : List Course) (ss ts : List Span) → IsPermutation ss ts → AreSpans os ss → AreSpans os ts
reordered os ss ts moved spans = record {
  placed = All-permutation (IsPlacedIn (length os)) ss ts moved spans.placed;
  each = λ i e within rests. spans_kept ss ts (get_or os i e) i (λ s. Contains-permutation ss ts s moved)
      (spans.each i e within rests);
}
