-- The places of the classes from which a class comes.
use Rattle.std.proofs.Common.{◌≡◌, ℕ, zero, suc, ◌<◌, ◌≤◌, leb, List, length, get_or, inl, inr, sym, refl, ap, subst, ◌∙◌, arith}
use Rattle.std.proofs.lemmas.Bool.{cases_lt, cond-false, cond-true, le-leb, lt-leb}
use Rattle.life_model.specs.Generation.{Generation, empty}
use Rattle.life_tracks.specs.Lines.{AreLinked, ancestor, core_of}

module _ (parents : ℕ → List ℕ) where
  -- at the end of the line
  pub ancestor-last : (n k m : ℕ) → n ≤ m → ancestor parents n k m ≡ k
  unfolding ancestor
  ancestor-last zero k m h = refl
  ancestor-last (suc n) k m h =
      cond-true (leb (suc n) m) k (ancestor parents n (get_or (parents n) k 0) m) (le-leb (suc n) m h)

  -- and before it
  pub ancestor-before : (n k m : ℕ) → m ≤ n →
      ancestor parents (suc n) k m ≡ ancestor parents n (get_or (parents n) k 0) m
  unfolding ancestor
  ancestor-before n k m h =
      cond-false (leb (suc n) m) k (ancestor parents n (get_or (parents n) k 0) m) (lt-leb (suc n) m (omega arith))

  -- each is the parent of the next
  pub ancestor-parent : (n k m : ℕ) → m < n →
      ancestor parents n k m ≡ get_or (parents m) (ancestor parents n k (suc m)) 0
  ancestor-parent zero k m h = absurd (omega arith)
  ancestor-parent (suc n) k m h =
      elim (cases_lt m n) [
        | inl before ↦
            ancestor-before n k m (omega arith) ∙ ancestor-parent n (get_or (parents n) k 0) m before
            ∙ ap (λ i. get_or (parents m) i 0) (sym (ancestor-before n k (suc m) (omega arith)))
        | inr last ↦
            let e : n ≡ m = omega arith in
            let end = ancestor-last (suc n) k (suc m) (omega arith) in
            ancestor-before n k m (omega arith) ∙ ancestor-last n (get_or (parents n) k 0) m (omega arith)
            ∙ ap (λ s. get_or (parents s) k 0) e ∙ ap (λ i. get_or (parents m) i 0) (sym end)
      ]

  module _ (classes : ℕ → List Generation) where
    pub core-last : (n k : ℕ) → core_of classes parents n k n ≡ get_or (classes n) k empty
    core-last n k = ap (λ i. get_or (classes n) i empty) (ancestor-last n k n (omega arith))

    pub core-before : (n k m : ℕ) → m ≤ n →
        core_of classes parents (suc n) k m ≡ core_of classes parents n (get_or (parents n) k 0) m
    core-before n k m h = ap (λ i. get_or (classes m) i empty) (ancestor-before n k m h)

    module _ (T : ℕ) (linked : AreLinked classes parents T) where
      pub ancestor-within : (n k m : ℕ) → n ≤ T → k < length (classes n) → m ≤ n →
          ancestor parents n k m < length (classes m)
      ancestor-within zero k m within inside h =
          let e : 0 ≡ m = omega arith in
          subst (λ i. i < length (classes m)) (sym (ancestor-last 0 k m (omega arith)))
          (subst (λ s. k < length (classes s)) e inside)
      ancestor-within (suc n) k m within inside h =
          elim (cases_lt n m) [
            | inl last ↦
                let e : suc n ≡ m = omega arith in
                subst (λ i. i < length (classes m)) (sym (ancestor-last (suc n) k m (omega arith)))
                (subst (λ s. k < length (classes s)) e inside)
            | inr before ↦
                subst (λ i. i < length (classes m)) (sym (ancestor-before n k m before))
                (ancestor-within n (get_or (parents n) k 0) m (omega arith) (linked.within n k (omega arith) inside) before)
          ]
