-- Totals before each stretch, kept one by one.
use Rattle.std.proofs.Common.{◌≡◌, ℕ, ◌+◌, ◌*◌, List, [], ◌∷◌, ◌++◌, get_or, length, length-append, inl, inr, sym, ap, ◌∙◌, arith}
use Rattle.std.proofs.Math.ListN.{get_or-append}
use Rattle.std.proofs.Math.Seq.{get_or-append_seam}
use Rattle.std.proofs.lemmas.Bool.{cases_lt}
use Rattle.life_model.specs.Rule.{Rule}
use Rattle.life_model.specs.Generation.{Generation}
use Rattle.life_strays.specs.Totals.{AreTotals, total}

module _ (R : Rule) (b : ℕ) (G : Generation) (totals : List ℕ) (sum : ℕ) where
  -- the total before one stretch more
  pub totals_more : AreTotals R b G totals → sum ≡ total R G (length totals * b) → AreTotals R b G (totals ++ sum ∷ [])
  totals_more so_far is j d h =
      let count = length-append totals (sum ∷ []) in
      elim (cases_lt j (length totals)) [
        | inl early ↦ get_or-append totals (sum ∷ []) d j early ∙ so_far j d early
        | inr late ↦
            let last : length totals ≡ j = omega arith in
            ap (λ n. get_or (totals ++ sum ∷ []) n d) (sym last) ∙ get_or-append_seam totals sum [] d ∙ is
            ∙ ap (λ n. total R G (n * b)) last
      ]

  -- and how far it is then to the next
  pub stretch_more : (n : ℕ) → length totals * b ≡ n → length (totals ++ sum ∷ []) * b ≡ n + b
  stretch_more n here =
      ap (λ k. k * b) (length-append totals (sum ∷ []))
      ∙ (let e : (length totals + 1) * b ≡ n + b = omega arith in e)
