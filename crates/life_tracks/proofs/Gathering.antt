-- The cells of siblings, gathered one class after another.
use Rattle.std.proofs.Common.{◌≡◌, ℕ, ◌+◌, ◌<◌, List, get_or, inl, inr, sym, ap, subst, ◌∙◌, arith}
use Rattle.std.proofs.lemmas.Bool.{cases_lt}
use Rattle.life_model.specs.Generation.{Generation, contains, empty}
use Rattle.life_objects.specs.Union.{union}
use Rattle.life_objects.proofs.Unions.{in_empty, in_first, in_second, in_union}
use Rattle.life_tracks.specs.Lines.{IsSibling}
use Rattle.life_tracks.specs.Readings.{AreLeftOf, IsWithSibling}

module _ (classes : List Generation) (places : List ℕ) (place : ℕ) where
  pub none_left : (L : Generation) → L ≡ empty → AreLeftOf classes places place 0 L
  none_left L none = record {
    from = λ c h. absurd (in_empty c (ap (λ H. contains H c) (sym none) ∙ h));
    all = λ c s. let before = s.before in absurd (omega arith);
  }

  pub more_left : (n : ℕ) (L more : Generation) → AreLeftOf classes places place n L →
      IsWithSibling classes places place n L more → AreLeftOf classes places place (n + 1) more
  more_left n L more left with_it = record {
    from = λ c h. elim (with_it.from c h) [
      | inl old ↦
          let s = left.from c old in
          let before : s.other < n = s.before in
          record { other = s.other; before = omega arith; sibling = s.sibling; has = s.has }
      | inr now ↦ record { other = n; before = omega arith; sibling = now.0; has = now.1 }
    ];
    all = λ c s.
        let before : s.other < n + 1 = s.before in
        elim (cases_lt s.other n) [
          | inl earlier ↦ with_it.kept c (left.all c (record {
            other = s.other;
            before = earlier;
            sibling = s.sibling;
            has = s.has;
          }))
          | inr past ↦
              let e : s.other ≡ n = omega arith in
              with_it.added c (subst (IsSibling places place) e s.sibling)
              (ap (λ k. contains (get_or classes k empty) c) (sym e) ∙ s.has)
        ];
  }

  -- either nothing is added, or a sibling is
  pub not_added : (n : ℕ) (L : Generation) → (IsSibling places place n → ⊥) → IsWithSibling classes places place n L L
  not_added n L none = record {
    kept = λ c h. h;
    added = λ c s h. absurd (none s);
    from = λ c h. inl h;
  }

  pub is_added : (n : ℕ) (L more : Generation) → IsSibling places place n → more ≡ union L (get_or classes n empty) →
      IsWithSibling classes places place n L more
  is_added n L more sibling made = record {
    kept = λ c h. ap (λ H. contains H c) made ∙ in_first L (get_or classes n empty) c h;
    added = λ c s h. ap (λ H. contains H c) made ∙ in_second L (get_or classes n empty) c h;
    from = λ c h.
        elim (in_union L (get_or classes n empty) c (ap (λ H. contains H c) (sym made) ∙ h)) [
          | inl old ↦ inl old
          | inr now ↦ inr (sibling, now)
        ];
  }
