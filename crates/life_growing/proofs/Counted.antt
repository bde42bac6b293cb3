-- The populations of a set's generations, counted one after another.
use Rattle.std.proofs.Common.{◌≡◌, ℕ, ◌+◌, ◌<◌, List, [], ◌∷◌, ◌++◌, length, get_or, inl, inr, sym, ap, subst, ◌∙◌, arith}
use Rattle.std.proofs.lemmas.Bool.{cases_lt}
use Rattle.std.proofs.lemmas.List.{get_or_append_left, get_or_push, length_push}
use Rattle.life_model.specs.Evolution.{generation}
use Rattle.life_model.specs.Generation.{Generation, size}
use Rattle.life_model.specs.Rule.{Rule}
use Rattle.life_model.proofs.Recurrences.{generation-zero}
use Rattle.life_growing.specs.Populations.{ArePopulations}

module _ (R : Rule) (G : Generation) where
  pub one_more_counted : (n : ℕ) (counts more : List ℕ) (x : ℕ) (H : Generation) → more ≡ counts ++ (x ∷ []) → x ≡ size H →
      H ≡ generation R G n → ArePopulations R G n counts → ArePopulations R G (n + 1) more
  one_more_counted n counts more x H is counted here are = record {
    count = ap length is ∙ length_push counts x ∙ ap (λ k. k + 1) are.count;
    each = λ t below. elim (cases_lt t n) [
      | inl before ↦
          ap (λ xs. get_or xs t 0) is
          ∙ get_or_append_left counts (x ∷ []) 0 t (subst (λ k. t < k) (sym are.count) before) ∙ are.each t before
      | inr past ↦
          let last : n ≡ t = omega arith in
          ap (λ xs. get_or xs t 0) is ∙ ap (λ k. get_or (counts ++ (x ∷ [])) k 0) (sym last)
          ∙ get_or_push counts x 0 n are.count ∙ counted ∙ ap size here ∙ ap (λ k. size (generation R G k)) last
    ];
  }

  pub first_counted : (counts more : List ℕ) (x : ℕ) (H : Generation) → counts ≡ [] → more ≡ counts ++ (x ∷ []) →
      x ≡ size H → H ≡ G → ArePopulations R G 1 more
  first_counted counts more x H none is counted here =
      one_more_counted 0 counts more x H is counted (here ∙ sym (generation-zero R G))
      (record { count = ap length none; each = λ t h. absurd (omega arith) })
