-- The first element that passes a test.
use Rattle.std.proofs.Common.{◌≡◌, ◌<◌, Bool, true, false, cond, List, [], ◌∷◌, Option, Some, None, ◌⊎◌, inl, inr, sym, refl, ap, subst, ◌∙◌, true≢false, arith}
use Rattle.std.specs.List.{Contains, find}
use Rattle.std.proofs.lemmas.Bool.{cases_Bool}
use Rattle.std.proofs.lemmas.Option.{none-some, same_Some}
use Rattle.life_objects.proofs.Lists.{Contains-head, Contains-later, head_or_later}

module _ {X : Type 0} (p : X → Bool) where
  passed : (x : X) (xs : List X) → p x ≡ true → find p (x ∷ xs) ≡ Some x
  passed x xs h = ap (λ t. cond t (Some x) (find p xs)) h

  failed : (x : X) (xs : List X) → p x ≡ false → find p (x ∷ xs) ≡ find p xs
  failed x xs h = ap (λ t. cond t (Some x) (find p xs)) h

  pub found_passes : (xs : List X) (x : X) → find p xs ≡ Some x → Contains xs x × (p x ≡ true)
  found_passes [] x e = absurd (none-some x e)
  found_passes (y ∷ ys) x e =
      elim (cases_Bool (p y)) [
        | inl h ↦
            let same = same_Some y x (sym (passed y ys h) ∙ e) in
            (subst (Contains (y ∷ ys)) same (Contains-head y ys), ap p (sym same) ∙ h)
        | inr h ↦
            let later = found_passes ys x (sym (failed y ys h) ∙ e) in
            (Contains-later y x ys later.0, later.1)
      ]

  pub passing_found : (xs : List X) (x : X) → Contains xs x → p x ≡ true → (y : X) × (find p xs ≡ Some y)
  passing_found [] x one h = let none : one.0 < 0 = one.1 in absurd (omega arith)
  passing_found (y ∷ ys) x one h =
      elim (cases_Bool (p y)) [
        | inl here ↦ (y, passed y ys here)
        | inr not_here ↦ elim (head_or_later y x ys one.0 one.1 one.2) [
          | inl e ↦ absurd (true≢false (sym h ∙ ap p (sym e) ∙ not_here))
          | inr later ↦ let q = passing_found ys x later h in (q.0, failed y ys not_here ∙ q.1)
        ]
      ]

-- something is found or nothing
pub cases_Option : {X : Type 0} (o : Option X) → ((x : X) × (o ≡ Some x)) ⊎ (o ≡ None)
cases_Option None = inr refl
cases_Option (Some x) = inl (x, refl)
