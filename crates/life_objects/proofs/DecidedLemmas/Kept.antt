-- Elements of lists that are mapped or of which some are kept.
use Rattle.std.proofs.Common.{◌≡◌, ◌<◌, Bool, true, false, cond, List, [], ◌∷◌, map, filter, inl, inr}
use Rattle.std.proofs.Common.{sym, ap, subst, ◌∙◌, arith}
use Rattle.std.proofs.lemmas.Bool.{cases_Bool}
use Rattle.std.specs.List.{Contains}
use Rattle.life_objects.proofs.Lists.{Contains-head, Contains-later, head_or_later}

pub Contains-map : {X Y : Type 0} (f : X → Y) (xs : List X) (x : X) → Contains xs x → Contains (map f xs) (f x)
Contains-map f [] x one = let none : one.0 < 0 = one.1 in absurd (omega arith)
Contains-map f (y ∷ ys) x one =
    elim (head_or_later y x ys one.0 one.1 one.2) [
      | inl e ↦ subst (λ z. Contains (f y ∷ map f ys) z) (ap f e) (Contains-head (f y) (map f ys))
      | inr later ↦ Contains-later (f y) (f x) (map f ys) (Contains-map f ys x later)
    ]

module _ {X : Type 0} (p : X → Bool) where
  kept_later : (b : Bool) (y x : X) (zs : List X) → Contains zs x → Contains (cond b (y ∷ zs) zs) x
  kept_later true y x zs one = Contains-later y x zs one
  kept_later false y x zs one = one

  pub Contains-filter : (xs : List X) (x : X) → Contains xs x → p x ≡ true → Contains (filter p xs) x
  Contains-filter [] x one h = let none : one.0 < 0 = one.1 in absurd (omega arith)
  Contains-filter (y ∷ ys) x one h =
      elim (head_or_later y x ys one.0 one.1 one.2) [
        | inl e ↦ subst (Contains (filter p (y ∷ ys))) e
            (subst (λ b. Contains (cond b (y ∷ filter p ys) (filter p ys)) y) (sym (ap p e ∙ h))
            (Contains-head y (filter p ys)))
        | inr later ↦ kept_later (p y) y x (filter p ys) (Contains-filter ys x later h)
      ]

  -- what is kept was there, and passes
  pub of_filter : (xs : List X) (x : X) → Contains (filter p xs) x → Contains xs x × (p x ≡ true)
  of_filter [] x one = let none : one.0 < 0 = one.1 in absurd (omega arith)
  of_filter (y ∷ ys) x one =
      elim (cases_Bool (p y)) [
        | inl kept ↦
            let there : Contains (y ∷ filter p ys) x =
            subst (λ b. Contains (cond b (y ∷ filter p ys) (filter p ys)) x) kept one in
            elim (head_or_later y x (filter p ys) there.0 there.1 there.2) [
              | inl e ↦ (subst (Contains (y ∷ ys)) e (Contains-head y ys), ap p (sym e) ∙ kept)
              | inr later ↦ let rest = of_filter ys x later in (Contains-later y x ys rest.0, rest.1)
            ]
        | inr left_out ↦
            let there : Contains (filter p ys) x =
            subst (λ b. Contains (cond b (y ∷ filter p ys) (filter p ys)) x) left_out one in
            let rest = of_filter ys x there in (Contains-later y x ys rest.0, rest.1)
      ]
