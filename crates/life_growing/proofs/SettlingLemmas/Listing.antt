-- Which things are among those of what falls apart.
use Rattle.std.proofs.Common.{◌≡◌, ℕ, zero, suc, ◌+◌, ◌<◌, List, [], ◌∷◌, ◌++◌, map, inl, inr, sym, ap, subst, ◌∙◌, append_assoc, arith}
use Rattle.std.specs.List.{Contains}
use Rattle.std.proofs.lemmas.Bool.{cases_lt}
use Rattle.std.proofs.lemmas.List.{map_push}
use Rattle.std.proofs.lemmas.List.Elements.{Contains-append_cases, Contains-append_left, Contains-append_right}
use Rattle.life_growth.specs.Things.{Thing}
use Rattle.life_model.specs.Cell.{Cell}
use Rattle.life_model.specs.Evolution.{generation}
use Rattle.life_model.specs.Generation.{Generation}
use Rattle.life_orbit.specs.Course.{Course}
use Rattle.life_objects.proofs.Lists.{Contains-head, head_or_later}
use Rattle.life_growing.specs.Settled.Things.{first_things, phase_thing}

module _ (f : ℕ → Thing) where
  pub of_first : (n : ℕ) (it : Thing) → Contains (first_things f n) it → (m : ℕ) × (m < n) × (it ≡ f m)
  of_first zero it one = let none : one.0 < 0 = one.1 in absurd (omega arith)
  of_first (suc n) it one =
      elim (Contains-append_cases (first_things f n) (f n ∷ []) it one) [
        | inl before ↦ let q = of_first n it before in (q.0, omega (arith, q.1), q.2)
        | inr last ↦
            elim (head_or_later (f n) it [] last.0 last.1 last.2) [
              | inl e ↦ (n, omega arith, sym e)
              | inr none ↦ let less : none.0 < 0 = none.1 in absurd (omega arith)
            ]
      ]

  pub Contains-first : (n m : ℕ) → m < n → Contains (first_things f n) (f m)
  Contains-first zero m h = absurd (omega arith)
  Contains-first (suc n) m h =
      elim (cases_lt m n) [
        | inl before ↦ Contains-append_left (first_things f n) (f n ∷ []) (f m) (Contains-first n m before)
        | inr last ↦
            Contains-append_right (first_things f n) (f n ∷ []) (f m)
            (subst (λ k. Contains (f n ∷ []) (f k)) (let e : n ≡ m = omega arith in e) (Contains-head (f n) []))
      ]

  -- one thing more, each as f makes it
  pub one_more : (h : Thing → Thing) (before items more : List Thing) (it : Thing) (n : ℕ) →
      items ≡ before ++ map h (first_things f n) → more ≡ items ++ it ∷ [] → it ≡ h (f n) →
      more ≡ before ++ map h (first_things f (n + 1))
  one_more h before items more it n so_far is last =
      is ∙ ap (λ xs. xs ++ it ∷ []) so_far ∙ append_assoc before (map h (first_things f n)) (it ∷ [])
      ∙ ap (λ xs. before ++ xs) (ap (λ x. map h (first_things f n) ++ x ∷ []) last
      ∙ sym (map_push h (first_things f n) (f n))
      ∙ ap (λ k. map h (first_things f k)) (let e : suc n ≡ n + 1 = omega arith in e))

-- a phase of a part, by equal numbers
pub same_phase : (since : ℕ) (o : Course) (m : ℕ) (G : Generation) (p : ℕ) (d : Cell) → G ≡ generation o.rule o.set m →
    p ≡ o.period → d ≡ o.displacement →
    (let it : Thing = record { time = since + m; set = G; ways = (p, d) ∷ [] } in it ≡ phase_thing since o m)
same_phase since o m G p d set period by i = record {
  time = since + m;
  set = set i;
  ways = (period i, by i) ∷ [];
}
