-- The first generation that has more than `most` cells, looked for one generation after another.
use Rattle.std.proofs.Common.{◌≡◌, ℕ, suc, ◌+◌, ◌-◌, ◌<◌, ◌≤◌, Bool, true, false, nat_lt, None, Some, cond, sym, ap, ◌∙◌, arith}
use Rattle.life_model.specs.Rule.{Rule}
use Rattle.life_model.specs.Generation.{Generation, size}
use Rattle.life_model.specs.Evolution.{generation}
use Rattle.life_answer.specs.Recurrence.{first_from}
use Rattle.life_answer.specs.Limited.{first_larger}

module _ (R : Rule) (G : Generation) (most last : ℕ) where
  abbrev is_larger : ℕ → Bool
  is_larger n = nat_lt most (size (generation R G n))

  -- the search begins at generation n: none before it has more
  abbrev pub BeginsAt : ℕ → Type 0
  BeginsAt n = first_larger R G most last ≡ first_from is_larger n (suc (last - n))

  pub begins : BeginsAt 0
  unfolding first_larger
  begins = ap (λ k. first_from is_larger 0 (suc k)) (let e : last ≡ last - 0 = omega arith in e)

  pub larger_here : (n : ℕ) → BeginsAt n → most < size (generation R G n) → Some n ≡ first_larger R G most last
  larger_here n begun more =
      let test : is_larger n ≡ true = grind arith in
      sym (begun ∙ ap (λ b. cond b (Some n) (first_from is_larger (n + 1) (last - n))) test)

  not_here : (n : ℕ) → BeginsAt n → size (generation R G n) ≤ most → first_larger R G most last ≡ first_from is_larger (n + 1) (last - n)
  not_here n begun few =
      let test : is_larger n ≡ false = grind arith in
      begun ∙ ap (λ b. cond b (Some n) (first_from is_larger (n + 1) (last - n))) test

  pub larger_later : (n : ℕ) → n < last → BeginsAt n → size (generation R G n) ≤ most → BeginsAt (n + 1)
  larger_later n before begun few =
      let rest : last - n ≡ suc (last - (n + 1)) = omega arith in
      not_here n begun few ∙ ap (first_from is_larger (n + 1)) rest

  pub larger_nowhere : BeginsAt last → size (generation R G last) ≤ most → None ≡ first_larger R G most last
  larger_nowhere begun few =
      let rest : last - last ≡ 0 = omega arith in
      sym (not_here last begun few ∙ ap (first_from is_larger (last + 1)) rest)
