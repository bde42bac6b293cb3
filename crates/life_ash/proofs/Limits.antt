-- The first generation past a limit, looked for one generation after another.
use Rattle.std.proofs.Common.{◌≡◌, ℕ, ◌+◌, ◌-◌, ◌<◌, ◌≤◌, Option, None, Some, inl, inr, ap, subst, ◌∙◌, arith}
use Rattle.std.proofs.lemmas.Bool.{cases_lt}
use Rattle.life_model.specs.Rule.{Rule}
use Rattle.life_model.specs.Generation.{Generation, size}
use Rattle.life_model.specs.Evolution.{generation}
use Rattle.life_model.proofs.Recurrences.{generation-add}
use Rattle.life_answer.specs.Limited.{IsAllowed, first_past}
use Rattle.life_ash.specs.Allowed.{AreAllowedBefore}
use Rattle.life_answer.proofs.Limits.{first_past-is, none_past, stays_within}

module _ (R : Rule) (G : Generation) where
  pub none_before : (limit : Option ℕ) → AreAllowedBefore R G limit 0
  none_before limit m h = absurd (omega arith)

  -- this generation is not past the limit either
  pub allowed_next : (limit : Option ℕ) (n : ℕ) → AreAllowedBefore R G limit n →
      IsAllowed limit (size (generation R G n)) → AreAllowedBefore R G limit (n + 1)
  allowed_next limit n before here m h =
      elim (cases_lt m n) [
        | inl early ↦ before m early
        | inr late ↦
            let last : n ≡ m = omega arith in
            subst (λ k. IsAllowed limit (size (generation R G k))) last here
      ]

  -- this generation is past the limit
  pub past_here : (limit : Option ℕ) (last n : ℕ) → n ≤ last → AreAllowedBefore R G limit n →
      (IsAllowed limit (size (generation R G n)) → ⊥) → first_past limit R G last ≡ Some n
  past_here None last n within before past = absurd (past tt)
  past_here (Some most) last n within before past =
      (first_past-is R G last most n).1 (
        within,
        elim (cases_lt most (size (generation R G n))) [
          | inl more ↦ more
          | inr few ↦ absurd (past few)
        ],
        before,
      )

  pub past_nowhere : (limit : Option ℕ) (last : ℕ) → AreAllowedBefore R G limit (last + 1) →
      first_past limit R G last ≡ None
  past_nowhere limit last before = none_past R G last limit (λ n h. before n (omega arith))

  -- where none before generation n is past the limit, the first that is past it is one of those from n on
  module _ (limit : Option ℕ) (last n : ℕ) (within : n ≤ last) (before : AreAllowedBefore R G limit n) where
    pub past_nowhere_later : first_past limit R (generation R G n) (last - n) ≡ None → first_past limit R G last ≡ None
    past_nowhere_later none =
        none_past R G last limit (λ m h.
        elim (cases_lt m n) [
          | inl early ↦ before m early
          | inr late ↦
              let there : n + (m - n) ≡ m = omega arith in
              subst (λ H. IsAllowed limit (size H)) (generation-add R G n (m - n) ∙ ap (generation R G) there)
              (stays_within R (generation R G n) (last - n) limit none (m - n) (omega arith))
        ])

  pub past_later : (limit : Option ℕ) (last n k : ℕ) → n ≤ last → AreAllowedBefore R G limit n →
      first_past limit R (generation R G n) (last - n) ≡ Some k → first_past limit R G last ≡ Some (n + k)
  past_later None last n k within before past = absurd cc
  past_later (Some most) last n k within before past =
      let first = (first_past-is R (generation R G n) (last - n) most k).0 past in
      let reached : k ≤ last - n = first.0 in
      (first_past-is R G last most (n + k)).1 (
        omega arith,
        subst (λ H. most < size H) (generation-add R G n k) first.1,
        λ m h.
            elim (cases_lt m n) [
              | inl early ↦ before m early
              | inr late ↦
                  let there : n + (m - n) ≡ m = omega arith in
                  subst (λ H. size H ≤ most) (generation-add R G n (m - n) ∙ ap (generation R G) there)
                  (first.2 (m - n) (omega arith))
            ],
      )
