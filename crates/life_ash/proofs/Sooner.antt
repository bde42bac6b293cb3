-- What becomes ash is determined by the ash that it becomes.
use Rattle.std.proofs.Common.{◌≡◌, ℕ, ◌<◌, List, [], ◌∷◌, inl, inr, subst, arith}
use Rattle.std.specs.List.{All, AllPairs, Contains}
use Rattle.std.proofs.lemmas.List.Elements.{All-contains_itself, All-weaker}
use Rattle.life_model.specs.Rule.{Rule}
use Rattle.life_model.specs.Generation.{Generation, cells}
use Rattle.life_model.specs.Evolution.{generation}
use Rattle.life_model.proofs.Recurrences.{generation-zero}
use Rattle.life_cells.specs.Limits.{IsWithin}
use Rattle.life_objects.specs.Apart.{AreApart, AreApartForEver}
use Rattle.life_objects.specs.Ash.{IsAsh}
use Rattle.life_objects.specs.Union.{generations}
use Rattle.life_objects.proofs.Ashes.{IsAsh-later}
use Rattle.life_objects.proofs.Lists.{AllPairs-weaker, Contains-head, Contains-later, head_or_later}
use Rattle.life_objects.proofs.OneList.{part_of_both}
use Rattle.life_objects.proofs.DecidedLemmas.Kept.{Contains-map}
use Rattle.life_orbit.specs.Course.{Course}
use Rattle.life_apart.specs.Sets.{sets_of}
use Rattle.life_ash.specs.Parts.{AreEndsOfCourses, IsEnd, ash_age_limit}
use Rattle.life_ash.proofs.Ends.{IsPartOfEnd, ash_of_ends, part_is_end}

-- a later generation is one of a set of the list
set_of_later : (R : Rule) (n : ℕ) (Ps : List Generation) (Q : Generation) → Contains (generations R Ps n) Q →
    (P : Generation) × Contains Ps P × (generation R P n ≡ Q)
set_of_later R n [] Q one = let none : one.0 < 0 = one.1 in absurd (omega arith)
set_of_later R n (P ∷ Ps) Q one =
    elim (head_or_later (generation R P n) Q (generations R Ps n) one.0 one.1 one.2) [
      | inl e ↦ (P, Contains-head P Ps, e)
      | inr later ↦
          let found = set_of_later R n Ps Q later in
          (found.0, Contains-later P found.0 Ps found.1, found.2)
    ]

-- generation ago of G is ash of Qs
module _ (R : Rule) (b ago : ℕ) (G : Generation) (Qs : List Generation) (later : IsAsh R b (generation R G ago) Qs)
    (placed : All (IsWithin ash_age_limit) (cells G)) where
  module _ (parts : List Generation) (ash : IsAsh R b G parts) where
    as_later : IsAsh R b (generation R G ago) (generations R parts ago)
    as_later = IsAsh-later R b G parts ash ago

    of_part : (Q : Generation) → Contains Qs Q → IsPartOfEnd R b ago G parts ash Q
    of_part Q one =
        set_of_later R ago parts Q
        (part_of_both R b b (generation R G ago) Qs (generations R parts ago) later as_later Q one)

    of_parts : All (IsPartOfEnd R b ago G parts ash) Qs
    of_parts = All-weaker (Contains Qs) (IsPartOfEnd R b ago G parts ash) of_part Qs (All-contains_itself Qs)

    apart : AllPairs AreApart Qs
    apart =
        AllPairs-weaker (AreApartForEver R) AreApart
        (λ P Q far. subst (λ H. AreApart H Q) (generation-zero R P)
        (subst (AreApart (generation R P 0)) (generation-zero R Q) (far 0)))
        Qs later.apart

    reached : (P : Generation) → Contains parts P → Contains Qs (generation R P ago)
    reached P one =
        part_of_both R b b (generation R G ago) (generations R parts ago) Qs as_later later (generation R P ago)
        (Contains-map (λ S. generation R S ago) parts P one)

    pub ash_by_later : (os : List Course) → AreEndsOfCourses R b ago Qs os → IsAsh R b G (sets_of os)
    ash_by_later os told = ash_of_ends R b ago G parts ash placed Qs os told of_parts apart reached

    pub no_set_before : (Q : Generation) → Contains Qs Q → ((P : Generation) → IsEnd R b ago Q P → ⊥) → ⊥
    no_set_before Q one none =
        let P = of_part Q one in
        none P.0 (part_is_end R b ago G parts ash placed P.0 Q P.1 P.2)
