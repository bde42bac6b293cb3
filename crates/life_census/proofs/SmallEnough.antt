-- The greatest bound up to which a pattern is small enough, by the first generation that has more cells than it may have.
use Rattle.std.proofs.Common.{◌≡◌, ℕ, ◌+◌, ◌*◌, ◌-◌, ◌<◌, ◌≤◌, None, Some, inl, inr, sym, subst, arith}
use Rattle.std.proofs.lemmas.Bool.{cases_lt}
use Rattle.life_model.specs.Evolution.{generation}
use Rattle.life_model.specs.Generation.{Generation, size}
use Rattle.life_model.specs.Rule.{Rule}
use Rattle.life_answer.specs.Growing.{allowed_bound}
use Rattle.life_answer.specs.Limited.{StaysWithin}
use Rattle.life_answer.proofs.Growing.{allowed_most, allowed_small, allowed_within}

module _ (R : Rule) (G : Generation) where
  pub allowed_anyway : (b : ℕ) → 1 ≤ b → allowed_bound None R G b ≡ b
  allowed_anyway b some =
      let most = allowed_most None R G b b some (omega arith) (λ n h. tt) in
      let within = allowed_within None R G b in
      omega arith

  -- no generation before n has more than `most` cells
  abbrev pub AreFewBefore : ℕ → ℕ → Type 0
  AreFewBefore most n = (m : ℕ) → m < n → size (generation R G m) ≤ most

  pub few_so_far : (most n : ℕ) → AreFewBefore most n → size (generation R G n) ≤ most → AreFewBefore most (n + 1)
  few_so_far most n before here m h =
      elim (cases_lt m n) [
        | inl less ↦ before m less
        | inr last ↦ let e : m ≡ n = omega arith in subst (λ k. size (generation R G k) ≤ most) (sym e) here
      ]

  module _ (most b : ℕ) where
    pub allowed_all : 1 ≤ b → AreFewBefore most (4 * b + 1) → allowed_bound (Some most) R G b ≡ b
    allowed_all some few =
        let small : StaysWithin (Some most) R G (4 * b) = λ n h. few n (omega arith) in
        let up = allowed_most (Some most) R G b b some (omega arith) small in
        let within = allowed_within (Some most) R G b in
        omega arith

    module _ (n c : ℕ) (last : n ≤ 4 * b) (many : most < size (generation R G n)) (few : AreFewBefore most n)
        (below : 4 * c ≤ n - 1) (above : n - 1 < 4 * (c + 1)) where
      no_more : allowed_bound (Some most) R G b ≤ c
      no_more =
          elim (cases_lt c (allowed_bound (Some most) R G b)) [
            | inl less ↦
                let small = allowed_small (Some most) R G b (omega arith) n (omega arith) in
                absurd (omega arith)
            | inr not_less ↦ omega arith
          ]

      no_less : c ≤ allowed_bound (Some most) R G b
      no_less =
          elim (cases_lt 0 c) [
            | inl some ↦ allowed_most (Some most) R G b c (omega arith) (omega arith) (λ m h. few m (omega arith))
            | inr none ↦ omega arith
          ]

      pub allowed_until : allowed_bound (Some most) R G b ≡ c
      allowed_until = let up = no_more in let down = no_less in omega arith
