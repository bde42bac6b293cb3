-- Boxes of sets that stay where they are, and the bands of rows that they share.
use Rattle.std.proofs.Common.{◌≡◌, ◌⊎◌, ℕ, ◌<◌, ◌≤◌, ℤ, pos, ◌+ℤ◌, ◌<ℤ◌, ◌≤ℤ◌, List, length, get_or}
use Rattle.std.proofs.Common.{Ordering, Less, Equal, Greater, false, inl, inr, refl, sym, ap, subst, ◌∙◌, true≢false, arith}
use Rattle.std.specs.List.{Contains}
use Rattle.std.specs.List.Sorted.{IsSortedByKey}
use Rattle.std.specs.Ordering.{int_cmp, is_lt, nat_cmp, ordering_then, MatchOrdering}
use Rattle.std.proofs.lemmas.Bool.{cases_lt}
use Rattle.std.proofs.lemmas.Cmp.{int_cmp_total, int_ranked, nat_cmp_total, on_total, ranked, then_total}
use Rattle.std.proofs.lemmas.Int.{ints}
use Rattle.std.proofs.lemmas.List.{get_or_default}
use Rattle.std.proofs.lemmas.List.Elements.{at_from_Contains}
use Rattle.std.proofs.lemmas.List.Sorted.{ranks_by, sorted_far}
use Rattle.life_model.specs.Cell.{origin}
use Rattle.life_model.specs.Rule.{Rule}
use Rattle.life_orbit.specs.Course.{Course}
use Rattle.life_orbit.specs.Hulls.{AreFar}
use Rattle.life_orbit.specs.declared.hull.Hull.{Hull}
use Rattle.life_orbit.proofs.HullLemmas.{before_left, before_top, past_bottom, past_right}
use Rattle.life_apart.specs.Spans.{AreApartInOrder, ArePlacesApart, AreRisingSpans, HasBands, IsBandOf, IsNext, IsPast, span_at}
use Rattle.life_apart.specs.declared.span.Span.{Span}
use Rattle.life_classes.proofs.Lookups.{either}

-- ---- spans in order

not_before : (p q : Ordering) (m n : ℕ) (x y : ℤ) → MatchOrdering p (m < n) (m ≡ n) (n < m) →
    MatchOrdering q (x <ℤ y) (x ≡ y) (y <ℤ x) → is_lt (ordering_then p q) ≡ false → (n < m) ⊎ ((n ≡ m) × (y ≤ℤ x))
not_before Less q m n x y a b least = absurd (true≢false least)
not_before Greater q m n x y a b least = inl a
not_before Equal Less m n x y a b least = absurd (true≢false least)
not_before Equal Equal m n x y a b least = inr (sym a, omega (arith, ints))
not_before Equal Greater m n x y a b least = inr (sym a, omega (arith, ints))

abbrev pub key_cmp : ℕ × ℤ → ℕ × ℤ → Ordering
key_cmp p q = ordering_then (nat_cmp p.0 q.0) (int_cmp p.1 q.1)

pub rising_from_sorted : (ss : List Span) → IsSortedByKey (λ s. (s.band, s.start)) key_cmp ss → AreRisingSpans ss
rising_from_sorted ss sorted i j d before within =
    let s = get_or ss j d in
    let t = get_or ss i d in
    not_before (nat_cmp s.band t.band) (int_cmp s.start t.start) s.band t.band s.start t.start
    (ranked s.band t.band (nat_cmp s.band t.band) refl) (int_ranked s.start t.start (int_cmp s.start t.start) refl)
    (sorted_far (λ a b. is_lt (key_cmp (a.band, a.start) (b.band, b.start)))
    (ranks_by (then_total (on_total (λ (p : ℕ × ℤ). p.0) nat_cmp_total) (on_total (λ (p : ℕ × ℤ). p.1) int_cmp_total)) (λ (a : Span). (a.band, a.start)))
    ss sorted i j d before within)

-- if a span is past another, none after it is next to that one
pub none_after : (ss : List Span) → AreRisingSpans ss → (n m k : ℕ) (d e : Span) → n ≤ m → m ≤ k → k < length ss →
    IsPast (get_or ss n e) (get_or ss m e) → IsNext (get_or ss n d) (get_or ss k d) → ⊥
none_after ss rising n m k d e before after within past next =
    let here : get_or ss n d ≡ get_or ss n e = get_or_default ss n d e (omega arith) in
    let there : get_or ss k d ≡ get_or ss k e = get_or_default ss k d e within in
    let last : IsNext (get_or ss n e) (get_or ss k e) = subst (λ t. IsNext (get_or ss n e) t) there (subst (λ s. IsNext s (get_or ss k d)) here next) in
    let band = last.band in
    let columns = last.columns in
    let early : (get_or ss n e).band ≤ (get_or ss m e).band = elim (rising n m e before (omega arith)) [
      | inl less ↦ omega arith
      | inr same ↦ let bands = same.0 in omega arith
    ] in
    elim (rising m k e after within) [
      | inl less ↦ absurd (omega arith)
      | inr same ↦
          let bands = same.0 in
          let starts = same.1 in
          elim past [
            | inl less ↦ absurd (omega arith)
            | inr gap ↦ absurd (omega (arith, ints))
          ]
    ]

-- ---- boxes

-- boxes with rows, each beginning no more than two columns and rows after the end of the other
pub record AreClose (g h : Hull) : Type 0 where
  pub left : h.left ≤ℤ (g.right +ℤ pos 2)
  pub right : g.left ≤ℤ (h.right +ℤ pos 2)
  pub above : h.top ≤ℤ (g.bottom +ℤ pos 2)
  pub below : g.top ≤ℤ (h.bottom +ℤ pos 2)
  pub first : g.top ≤ℤ (g.bottom +ℤ pos 2)
  pub second : h.top ≤ℤ (h.bottom +ℤ pos 2)

module _ (g h : Hull) where
  no_first : (g.bottom +ℤ pos 2) <ℤ g.top → AreFar g origin h
  no_first gap c d in_g in_h near =
      let above = in_g.above in
      let below = in_g.below in
      absurd (omega (arith, ints))

  no_second : (h.bottom +ℤ pos 2) <ℤ h.top → AreFar g origin h
  no_second gap c d in_g in_h near =
      let above = in_h.above in
      let below = in_h.below in
      absurd (omega (arith, ints))

  pub far_or_close : AreFar g origin h ⊎ AreClose g h
  far_or_close =
      elim (either h.left (g.right +ℤ pos 2)) [
        | inr gap ↦ inl (before_left g h origin (omega (arith, ints)))
        | inl left ↦ elim (either g.left (h.right +ℤ pos 2)) [
          | inr gap ↦ inl (past_right g h origin (omega (arith, ints)))
          | inl right ↦ elim (either h.top (g.bottom +ℤ pos 2)) [
            | inr gap ↦ inl (before_top g h origin (omega (arith, ints)))
            | inl above ↦ elim (either g.top (h.bottom +ℤ pos 2)) [
              | inr gap ↦ inl (past_bottom g h origin (omega (arith, ints)))
              | inl below ↦ elim (either g.top (g.bottom +ℤ pos 2)) [
                | inr gap ↦ inl (no_first gap)
                | inl first ↦ elim (either h.top (h.bottom +ℤ pos 2)) [
                  | inr gap ↦ inl (no_second gap)
                  | inl second ↦ inr (record {
                    left = left;
                    right = right;
                    above = above;
                    below = below;
                    first = first;
                    second = second;
                  })
                ]
              ]
            ]
          ]
        ]
      ]

-- ---- bands

-- a row that is no further on is in no later band
pub no_later_band : (row other : ℤ) (m n : ℕ) → row ≤ℤ other → IsBandOf row m → IsBandOf other n → m ≤ n
no_later_band row other m n le here there =
    let first = here.first in
    let last = there.last in
    omega (arith, ints)

-- the spans of two places in one band
module _ (R : Rule) (os : List Course) (ss : List Span) (apart : AreApartInOrder R os ss) where
  -- the first comes before the second
  ordered : (g h : Hull) (i j k a b : ℕ) → a < b → b < length ss → ((d : Span) → get_or ss a d ≡ span_at g i k) →
      ((d : Span) → get_or ss b d ≡ span_at h j k) → h.left ≤ℤ (g.right +ℤ pos 2) → ArePlacesApart R os i j
  ordered g h i j k a b before within first second close =
      let d : Span = span_at g i k in
      subst (λ t. IsNext (span_at g i k) t → ArePlacesApart R os i t.place) (second d)
      (subst (λ s. IsNext s (get_or ss b d) → ArePlacesApart R os s.place (get_or ss b d).place) (first d)
      (apart a (omega arith) b d before within))
      (record { band = refl; columns = close })

  in_band : (g h : Hull) (i j k : ℕ) → (i ≡ j → ⊥) → AreClose g h → Contains ss (span_at g i k) →
      Contains ss (span_at h j k) → ArePlacesApart R os i j ⊎ ArePlacesApart R os j i
  in_band g h i j k differ close one other =
      let first = at_from_Contains ss (span_at g i k) one in
      let second = at_from_Contains ss (span_at h j k) other in
      elim (cases_lt first.0 second.0) [
        | inl before ↦ inl (ordered g h i j k first.0 second.0 before second.1 first.2 second.2 close.left)
        | inr more ↦ elim (cases_lt second.0 first.0) [
          | inl after ↦ inr (ordered h g j i k second.0 first.0 after first.1 second.2 first.2 close.right)
          | inr same ↦
              let d : Span = span_at g i k in
              let at : first.0 ≡ second.0 = omega arith in
              absurd (differ (ap (λ s. s.place) (sym (first.2 d) ∙ ap (λ n. get_or ss n d) at ∙ second.2 d)))
        ]
      ]

  pub close_apart : (g h : Hull) (i j : ℕ) → (i ≡ j → ⊥) → AreClose g h → HasBands ss g i → HasBands ss h j →
      ArePlacesApart R os i j ⊎ ArePlacesApart R os j i
  close_apart g h i j differ close one other =
      let above = no_later_band h.top (g.bottom +ℤ pos 2) other.first one.last close.above other.top one.bottom in
      let below = no_later_band g.top (h.bottom +ℤ pos 2) one.first other.last close.below one.top other.bottom in
      let rows = no_later_band g.top (g.bottom +ℤ pos 2) one.first one.last close.first one.top one.bottom in
      let others = no_later_band h.top (h.bottom +ℤ pos 2) other.first other.last close.second other.top other.bottom in
      elim (cases_lt one.first other.first) [
        | inl less ↦ in_band g h i j other.first differ close (one.each other.first (omega arith) above)
            (other.each other.first (omega arith) others)
        | inr more ↦ in_band g h i j one.first differ close (one.each one.first (omega arith) rows)
            (other.each one.first more below)
      ]
