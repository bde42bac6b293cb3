-- What holds of each element of a list and of one more.
use Rattle.std.proofs.Common.{◌≡◌, ℕ, ◌+◌, ◌<◌, List, [], ◌∷◌, ◌++◌, length, get_or, inl, inr, sym, ap, subst, ◌∙◌, arith}
use Rattle.std.proofs.Math.Seq.{get_or-append_seam}
use Rattle.std.proofs.lemmas.Bool.{cases_lt}
use Rattle.std.proofs.lemmas.List.{get_or_append_left}

module _ {X : Type 0} (xs ys : List X) (x : X) (n : ℕ) (long : length xs ≡ n) (more : ys ≡ xs ++ x ∷ []) where
  pub at_before : (k : ℕ) (d : X) → k < n → get_or ys k d ≡ get_or xs k d
  at_before k d h = ap (λ zs. get_or zs k d) more ∙ get_or_append_left xs (x ∷ []) d k (omega arith)

  pub at_end : (k : ℕ) (d : X) → k ≡ n → get_or ys k d ≡ x
  at_end k d e =
      let last : k ≡ length xs = omega arith in
      ap (λ zs. get_or zs k d) more ∙ ap (λ m. get_or (xs ++ x ∷ []) m d) last ∙ get_or-append_seam xs x [] d

  pub each_more : (P : ℕ → X → Type 0) → ((k : ℕ) (d : X) → k < n → P k (get_or xs k d)) → P n x →
      (k : ℕ) (d : X) → k < n + 1 → P k (get_or ys k d)
  each_more P all here k d h =
      elim (cases_lt k n) [
        | inl before ↦ subst (P k) (sym (at_before k d before)) (all k d before)
        | inr past ↦
            let e : k ≡ n = omega arith in
            subst (P k) (sym (at_end k d e)) (subst (λ m. P m x) (sym e) here)
      ]
