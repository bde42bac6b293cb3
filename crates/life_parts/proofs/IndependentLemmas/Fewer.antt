-- Where each element of a list has one of its own in another list, that one is no shorter. If it is no longer, each has just one.
use Rattle.std.proofs.Common.{◌≡◌, ◌≢◌, ◌≤◌, ◌⊎◌, List, [], ◌∷◌, length, inl, inr, sym, subst, arith}
use Rattle.std.specs.List.{Contains, remove}
use Rattle.std.proofs.lemmas.List.Elements.{All-contains, at_from_Contains}
use Rattle.std.proofs.lemmas.List.Sorted.{Contains-permutation, IsPermutation-remove, IsPermutation-sym, length_permutation}
use Rattle.std.specs.List.Sorted.{IsPermutation}
use Rattle.life_objects.proofs.Lists.{AllDiffer, AllPairs-head, AllPairs-tail, Contains-head, Contains-later, head_or_later}

-- The list is y and the others.
record IsTaken {Y : Type 0} (ys : List Y) (y : Y) : Type 0 where
  others : List Y
  order : IsPermutation ys (y ∷ others)

module _ {X Y : Type 0} (S : X → Y → Type 0) where
  taken : (ys : List Y) (y : Y) → Contains ys y → IsTaken ys y
  taken ys y one =
      let at = at_from_Contains ys y one in
      record { others = remove ys at.0; order = IsPermutation-remove ys at.0 y at.1 (sym (at.2 y)) }

  -- another element is y, or one of the others
  other_or_same : (ys : List Y) (y z : Y) (t : IsTaken ys y) → Contains ys z → (y ≡ z) ⊎ Contains t.others z
  other_or_same ys y z t one =
      let there = Contains-permutation ys (y ∷ t.others) z t.order one in
      head_or_later y z t.others there.0 there.1 there.2

  was_there : (ys : List Y) (y z : Y) (t : IsTaken ys y) → Contains t.others z → Contains ys z
  was_there ys y z t one =
      Contains-permutation (y ∷ t.others) ys z (IsPermutation-sym ys (y ∷ t.others) t.order) (Contains-later y z t.others one)

  pub no_shorter : (xs : List X) (ys : List Y) → AllDiffer xs →
      ((x : X) → Contains xs x → (y : Y) × Contains ys y × S x y) →
      ((x z : X) (y : Y) → Contains xs x → Contains xs z → Contains ys y → S x y → S z y → x ≡ z) → length xs ≤ length ys
  no_shorter [] ys differ each one = omega arith
  no_shorter (x ∷ xs) ys differ each one =
      let y = each x (Contains-head x xs) in
      let t = taken ys y.0 y.1 in
      let long : length (y.0 ∷ t.others) ≡ length ys = length_permutation ys (y.0 ∷ t.others) t.order in
      let rest =
      no_shorter xs t.others (AllPairs-tail (λ a b. a ≢ b) x xs differ)
      (λ z listed.
      let w = each z (Contains-later x z xs listed) in
      elim (other_or_same ys y.0 w.0 t w.1) [
        | inl same ↦
            absurd (All-contains (λ b. x ≢ b) xs z (AllPairs-head (λ a b. a ≢ b) x xs differ) listed
            (one x z y.0 (Contains-head x xs) (Contains-later x z xs listed) y.1 y.2 (subst (S z) (sym same) w.2)))
        | inr other ↦ (w.0, other, w.2)
      ])
      (λ a b w listed too there. one a b w (Contains-later x a xs listed) (Contains-later x b xs too) (was_there ys y.0 w t there)) in
      omega arith

  module _ (xs : List X) (ys : List Y) (differ : AllDiffer xs)
      (each : (x : X) → Contains xs x → (y : Y) × Contains ys y × S x y)
      (one : (x z : X) (y : Y) → Contains xs x → Contains xs z → Contains ys y → S x y → S z y → x ≡ z)
      (few : length ys ≤ length xs) where
    pub just_one : (x : X) (y z : Y) → Contains xs x → Contains ys y → Contains ys z → S x y → S x z → y ≡ z
    just_one x y z listed there too first second =
        let t = taken ys y there in
        let long : length (y ∷ t.others) ≡ length ys = length_permutation ys (y ∷ t.others) t.order in
        elim (other_or_same ys y z t too) [
          | inl same ↦ same
          | inr other ↦
              let rest =
              no_shorter xs t.others differ (λ w in_xs.
              let v = each w in_xs in
              elim (other_or_same ys y v.0 t v.1) [
                | inl same ↦
                    (z, other, subst (λ u. S u z) (one x w y listed in_xs there first (subst (S w) (sym same) v.2)) second)
                | inr left ↦ (v.0, left, v.2)
              ])
              (λ a b w in_xs also there. one a b w in_xs also (was_there ys y w t there)) in
              absurd (omega arith)
        ]
