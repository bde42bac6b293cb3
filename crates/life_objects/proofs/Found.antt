-- Where elements of lists come from, and which set of a list has a cell.
use Rattle.std.proofs.Common.{◌≡◌, ◌<◌, Bool, true, List, [], ◌∷◌, map, flat_map, get_or, inl, inr, sym, ap, subst, ◌∙◌, arith}
use Rattle.std.specs.List.{Contains, list_all, list_any}
use Rattle.std.proofs.lemmas.List.Elements.{All-contains, Contains-append_cases, Contains-append_left, Contains-append_right, Contains-get_or, at_from_Contains}
use Rattle.std.proofs.lemmas.List.Folds.{Any-from_list_any, list_any_at}
use Rattle.std.proofs.lemmas.List.Sums.{AllPass-from_list_all, list_all-from_AllPass}
use Rattle.life_model.specs.Cell.{Cell}
use Rattle.life_model.specs.Rule.{Rule}
use Rattle.life_model.specs.Generation.{Generation, contains}
use Rattle.life_objects.specs.Union.{union_of}
use Rattle.life_objects.proofs.Lists.{Contains-head, Contains-later, head_or_later}
use Rattle.life_objects.proofs.Members.{found_now, in_list_now}

module _ {X Y : Type 0} where
  pub of_map : (f : X → Y) (xs : List X) (y : Y) → Contains (map f xs) y → (x : X) × Contains xs x × (f x ≡ y)
  of_map f [] y one = let none : one.0 < 0 = one.1 in absurd (omega arith)
  of_map f (x ∷ xs) y one =
      elim (head_or_later (f x) y (map f xs) one.0 one.1 one.2) [
        | inl e ↦ (x, Contains-head x xs, e)
        | inr later ↦ let q = of_map f xs y later in (q.0, Contains-later x q.0 xs q.1, q.2)
      ]

  pub of_flat_map : (f : X → List Y) (xs : List X) (y : Y) → Contains (flat_map f xs) y →
      (x : X) × Contains xs x × Contains (f x) y
  of_flat_map f [] y one = let none : one.0 < 0 = one.1 in absurd (omega arith)
  of_flat_map f (x ∷ xs) y one =
      elim (Contains-append_cases (f x) (flat_map f xs) y one) [
        | inl here ↦ (x, Contains-head x xs, here)
        | inr later ↦ let q = of_flat_map f xs y later in (q.0, Contains-later x q.0 xs q.1, q.2)
      ]

  pub Contains-flat_map : (f : X → List Y) (xs : List X) (x : X) (y : Y) → Contains xs x → Contains (f x) y →
      Contains (flat_map f xs) y
  Contains-flat_map f [] x y one two = let none : one.0 < 0 = one.1 in absurd (omega arith)
  Contains-flat_map f (z ∷ zs) x y one two =
      elim (head_or_later z x zs one.0 one.1 one.2) [
        | inl e ↦ Contains-append_left (f z) (flat_map f zs) y (subst (λ w. Contains (f w) y) (sym e) two)
        | inr later ↦ Contains-append_right (f z) (flat_map f zs) y (Contains-flat_map f zs x y later two)
      ]

module _ {X : Type 0} (p : X → Bool) where
  pub each_passes : (xs : List X) → list_all p xs ≡ true → (x : X) → Contains xs x → p x ≡ true
  each_passes xs h x one = All-contains (λ y. p y ≡ true) xs x (AllPass-from_list_all p xs h) one

  pub all_pass : (xs : List X) → ((x : X) → Contains xs x → p x ≡ true) → list_all p xs ≡ true
  all_pass xs each = list_all-from_AllPass p xs (λ k d h. each (get_or xs k d) (Contains-get_or xs k d h))

  pub some_passes : (xs : List X) → list_any p xs ≡ true → (x : X) × Contains xs x × (p x ≡ true)
  some_passes xs h =
      let one = Any-from_list_any p xs h in
      (one.1, (one.0, one.2, one.3), one.4)

  pub any_passes : (xs : List X) (x : X) → Contains xs x → p x ≡ true → list_any p xs ≡ true
  any_passes xs x one h =
      let at = at_from_Contains xs x one in
      list_any_at p xs at.0 x at.1 (ap p (at.2 x) ∙ h)

-- which rule doesn't matter now
pub any_rule : Rule
any_rule = record { birth = 0; survival = 0 }

pub owner : (Hs : List Generation) (c : Cell) → contains (union_of Hs) c ≡ true →
    (H : Generation) × Contains Hs H × (contains H c ≡ true)
owner Hs c h = found_now any_rule Hs c h

pub owned : (Hs : List Generation) (H : Generation) (c : Cell) → Contains Hs H → contains H c ≡ true →
    contains (union_of Hs) c ≡ true
owned Hs H c one h = in_list_now any_rule Hs H c one h
