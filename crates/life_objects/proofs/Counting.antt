-- How many elements of a list pass a test: none, one or more.
use Rattle.std.proofs.Common.{◌≡◌, ◌+◌, ◌<◌, ◌≤◌, Bool, true, false, cond, List, [], ◌∷◌, count_by, inl, inr, sym, ap, ◌∙◌, arith}
use Rattle.std.specs.List.{AllPairs, Contains}
use Rattle.std.proofs.lemmas.Bool.{cases_Bool, cases_lt}
use Rattle.std.proofs.lemmas.List.Elements.{All-contains}
use Rattle.std.proofs.lemmas.List.Sums.{sum_by-cons}
use Rattle.life_objects.proofs.Lists.{AllPairs-head, AllPairs-tail, Contains-head, Contains-later, head_or_later}

module _ {X : Type 0} (p : X → Bool) where
  pub count_by-cons : (x : X) (xs : List X) → count_by p (x ∷ xs) ≡ cond (p x) 1 0 + count_by p xs
  count_by-cons x xs = sum_by-cons (λ (y : X). cond (p y) 1 0) x xs

  pub one_more : (x : X) (xs : List X) → p x ≡ true → count_by p (x ∷ xs) ≡ 1 + count_by p xs
  one_more x xs h = count_by-cons x xs ∙ ap (λ b. cond b 1 0 + count_by p xs) h

  pub no_more : (x : X) (xs : List X) → p x ≡ false → count_by p (x ∷ xs) ≡ 0 + count_by p xs
  no_more x xs h = count_by-cons x xs ∙ ap (λ b. cond b 1 0 + count_by p xs) h

  pub count-some : (xs : List X) (x : X) → Contains xs x → p x ≡ true → 1 ≤ count_by p xs
  count-some [] x one h = let none : one.0 < 0 = one.1 in absurd (omega arith)
  count-some (y ∷ ys) x one h =
      elim (head_or_later y x ys one.0 one.1 one.2) [
        | inl same ↦ let e = one_more y ys (ap p same ∙ h) in omega arith
        | inr later ↦
            let k = count-some ys x later h in
            elim (cases_Bool (p y)) [
              | inl passes ↦ let e = one_more y ys passes in omega arith
              | inr fails ↦ let e = no_more y ys fails in omega arith
            ]
      ]

  pub some_counted : (xs : List X) → 1 ≤ count_by p xs → (x : X) × Contains xs x × (p x ≡ true)
  some_counted [] h = absurd (omega arith)
  some_counted (x ∷ xs) h =
      elim (cases_Bool (p x)) [
        | inl passes ↦ (x, Contains-head x xs, passes)
        | inr fails ↦
            let e = no_more x xs fails in
            let r = some_counted xs (omega arith) in
            (r.0, Contains-later x r.0 xs r.1, r.2)
      ]

  fewer : (x : X) (xs : List X) → count_by p (x ∷ xs) ≤ 1 → count_by p xs ≤ 1
  fewer x xs few =
      elim (cases_Bool (p x)) [
        | inl passes ↦ let e = one_more x xs passes in omega arith
        | inr fails ↦ let e = no_more x xs fails in omega arith
      ]

  -- where no more than one is counted, two that pass are one
  pub one_counted : (xs : List X) → count_by p xs ≤ 1 → (x y : X) → Contains xs x → Contains xs y → p x ≡ true →
      p y ≡ true → x ≡ y
  one_counted [] few x y one two h k = let none : one.0 < 0 = one.1 in absurd (omega arith)
  one_counted (z ∷ zs) few x y one two h k =
      elim (head_or_later z x zs one.0 one.1 one.2) [
        | inl a ↦
            let e = one_more z zs (ap p a ∙ h) in
            elim (head_or_later z y zs two.0 two.1 two.2) [
              | inl b ↦ sym a ∙ b
              | inr later ↦ let more = count-some zs y later k in absurd (omega arith)
            ]
        | inr later ↦ elim (head_or_later z y zs two.0 two.1 two.2) [
          | inl b ↦
              let e = one_more z zs (ap p b ∙ k) in
              let more = count-some zs x later h in
              absurd (omega arith)
          | inr too ↦ one_counted zs (fewer z zs few) x y later too h k
        ]
      ]

  -- where no two pass, no more than one is counted
  pub few_counted : (xs : List X) → AllPairs (λ x y. p x ≡ true → p y ≡ true → ⊥) xs → count_by p xs ≤ 1
  few_counted [] pairs = omega arith
  few_counted (x ∷ xs) pairs =
      elim (cases_Bool (p x)) [
        | inl passes ↦
            let e = one_more x xs passes in
            elim (cases_lt 0 (count_by p xs)) [
              | inl more ↦
                  let r = some_counted xs (omega arith) in
                  absurd (All-contains (λ y. p x ≡ true → p y ≡ true → ⊥) xs r.0
                  (AllPairs-head (λ x y. p x ≡ true → p y ≡ true → ⊥) x xs pairs) r.1 passes r.2)
              | inr no_more ↦ omega arith
            ]
        | inr fails ↦
            let e = no_more x xs fails in
            let few = few_counted xs (AllPairs-tail (λ x y. p x ≡ true → p y ≡ true → ⊥) x xs pairs) in
            omega arith
      ]
