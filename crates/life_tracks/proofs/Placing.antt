-- The places of a line, from its end backwards.
use Rattle.std.proofs.Common.{◌≡◌, ℕ, suc, ◌+◌, ◌-◌, ◌<◌, ◌≤◌, List, length, get_or, replicate, set, inl, inr, sym, ap, ◌∙◌, arith}
use Rattle.std.proofs.lemmas.Bool.{cases_eq}
use Rattle.std.proofs.lemmas.List.{get_or-replicate, get_or-set_other, get_or-set_same, get_or_default}
use Rattle.life_tracks.specs.Lines.{ancestor}
use Rattle.life_tracks.proofs.Ancestors.{ancestor-last, ancestor-parent}

module _ (borne : ℕ → List ℕ) (n k : ℕ) where
  pub last_place : (places : List ℕ) → places ≡ replicate (n + 1) k → (m : ℕ) → n ≤ m + 0 → m ≤ n →
      get_or places m 0 ≡ ancestor borne n k m
  last_place places are m high low =
      ap (λ ps. get_or ps m 0) are ∙ get_or-replicate (n + 1) m k 0 (omega arith)
      ∙ sym (ancestor-last borne n k m (omega arith))

  module _ (places : List ℕ) (back : ℕ) (some : back < n) (long : length places ≡ suc n)
      (so_far : (m : ℕ) → n ≤ m + back → m ≤ n → get_or places m 0 ≡ ancestor borne n k m) where
    pub next_is : (x : ℕ) → x ≡ get_or places (n - 1 - back + 1) x → x ≡ ancestor borne n k (suc (n - 1 - back))
    next_is x is =
        let e : n - 1 - back + 1 ≡ suc (n - 1 - back) = omega arith in
        is ∙ get_or_default places (n - 1 - back + 1) x 0 (omega arith) ∙ ap (λ m. get_or places m 0) e
        ∙ so_far (suc (n - 1 - back)) (omega arith) (omega arith)

    pub more_places : (x v : ℕ) → x ≡ get_or places (n - 1 - back + 1) x → v ≡ get_or (borne (n - 1 - back)) x 0 →
        (m : ℕ) → n ≤ m + (back + 1) → m ≤ n → get_or (set places (n - 1 - back) v) m 0 ≡ ancestor borne n k m
    more_places x v is v_is m high low =
        elim (cases_eq m (n - 1 - back)) [
          | inl same ↦
              ap (λ i. get_or (set places (n - 1 - back) v) i 0) same
              ∙ get_or-set_same places (n - 1 - back) v 0 (omega arith)
              ∙ v_is ∙ ap (λ i. get_or (borne (n - 1 - back)) i 0) (next_is x is)
              ∙ sym (ancestor-parent borne n k (n - 1 - back) (omega arith)) ∙ ap (ancestor borne n k) (sym same)
          | inr other ↦
              get_or-set_other places (n - 1 - back) m v 0 other ∙ so_far m (omega (arith, other)) low
        ]
