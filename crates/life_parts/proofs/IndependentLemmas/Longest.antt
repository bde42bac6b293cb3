-- The first of the longest lists is one of them, and none is longer.
use Rattle.std.proofs.Common.{◌≡◌, ◌<◌, ◌≤◌, Bool, true, false, cond, List, [], ◌∷◌, length, inl, inr, sym, ap, subst, arith}
use Rattle.std.specs.Prelude.{nat_le}
use Rattle.std.specs.List.{Contains}
use Rattle.std.proofs.lemmas.Bool.{cases_Bool, leb-false, leb-true}
use Rattle.life_objects.proofs.Lists.{Contains-head, Contains-later, head_or_later}
use Rattle.life_parts.specs.Independent.Independent.{longest}

module _ {X : Type 0} where
  abbrev no_shorter : List X → List (List X) → Bool
  no_shorter xs rest = nat_le (length (longest rest)) (length xs)

  takes : (xs : List X) (rest : List (List X)) → no_shorter xs rest ≡ true → longest (xs ∷ rest) ≡ xs
  takes xs rest h = ap (λ b. cond b xs (longest rest)) h

  leaves : (xs : List X) (rest : List (List X)) → no_shorter xs rest ≡ false → longest (xs ∷ rest) ≡ longest rest
  leaves xs rest h = ap (λ b. cond b xs (longest rest)) h

  pub none_longer : (xss : List (List X)) (xs : List X) → Contains xss xs → length xs ≤ length (longest xss)
  none_longer [] xs one = let none : one.0 < 0 = one.1 in absurd (omega arith)
  none_longer (ys ∷ rest) xs one =
      elim (cases_Bool (no_shorter ys rest)) [
        | inl long ↦
            let e = ap length (takes ys rest long) in
            let h = leb-true (length (longest rest)) (length ys) long in
            elim (head_or_later ys xs rest one.0 one.1 one.2) [
              | inl same ↦ let f = ap length same in omega arith
              | inr later ↦ let k = none_longer rest xs later in omega arith
            ]
        | inr short ↦
            let e = ap length (leaves ys rest short) in
            let h = leb-false (length (longest rest)) (length ys) short in
            elim (head_or_later ys xs rest one.0 one.1 one.2) [
              | inl same ↦ let f = ap length same in omega arith
              | inr later ↦ let k = none_longer rest xs later in omega arith
            ]
      ]

  longest_of : (ys : List X) (rest : List (List X)) → Contains (ys ∷ rest) (longest (ys ∷ rest))
  longest_of ys [] =
      elim (cases_Bool (no_shorter ys [])) [
        | inl long ↦ subst (Contains (ys ∷ [])) (sym (takes ys [] long)) (Contains-head ys [])
        | inr short ↦ let h = leb-false (length (longest {X = X} [])) (length ys) short in absurd (omega arith)
      ]
  longest_of ys (zs ∷ rest) =
      elim (cases_Bool (no_shorter ys (zs ∷ rest))) [
        | inl long ↦ subst (Contains (ys ∷ (zs ∷ rest))) (sym (takes ys (zs ∷ rest) long)) (Contains-head ys (zs ∷ rest))
        | inr short ↦
            subst (Contains (ys ∷ (zs ∷ rest))) (sym (leaves ys (zs ∷ rest) short))
            (Contains-later ys (longest (zs ∷ rest)) (zs ∷ rest) (longest_of zs rest))
      ]

  pub longest_listed : (xss : List (List X)) (xs : List X) → Contains xss xs → Contains xss (longest xss)
  longest_listed [] xs one = let none : one.0 < 0 = one.1 in absurd (omega arith)
  longest_listed (ys ∷ rest) xs one = longest_of ys rest
