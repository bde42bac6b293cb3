-- What has become of the classes that live on determines the parts of ash.
use Rattle.std.proofs.Common.{◌≡◌, ℕ, true, List, sym, subst, arith}
use Rattle.std.specs.List.{All, AllPairs, Contains}
use Rattle.std.proofs.lemmas.List.Elements.{All-contains, All-contains_itself, All-filter, All-map, All-weaker, filter_passes}
use Rattle.std.proofs.lemmas.List.Kept.{AllPairs-filter}
use Rattle.life_model.specs.Rule.{Rule}
use Rattle.life_model.specs.Generation.{Generation, cells}
use Rattle.life_model.specs.Evolution.{generation}
use Rattle.life_cells.specs.Limits.{IsWithin}
use Rattle.life_objects.specs.Apart.{AreApart, AreApartFor}
use Rattle.life_objects.specs.Ash.{IsAsh}
use Rattle.life_objects.specs.Union.{generations, union_of}
use Rattle.life_objects.specs.Whole.{StaysWhole}
use Rattle.life_objects.proofs.Cores.{core_of, part_around}
use Rattle.life_objects.proofs.Lists.{AllPairs-map, AllPairs-weaker}
use Rattle.life_objects.proofs.DecidedLemmas.Kept.{Contains-filter, Contains-map}
use Rattle.life_orbit.specs.Course.{Course}
use Rattle.life_ash.specs.Living.{has_cells}
use Rattle.life_apart.specs.Sets.{sets_of}
use Rattle.life_ash.specs.Parts.{AreEndsOfCourses, IsEnd, ash_age_limit}
use Rattle.life_ash.proofs.Ends.{IsPartOfEnd, ash_of_ends, part_is_end}
use Rattle.life_ash.proofs.Survivors.{ends, some_by_test, test_by_some}

module _ (R : Rule) (b : ℕ) (G : Generation) (Ls : List Generation) (whole : union_of Ls ≡ G)
    (stay : All (StaysWhole R b G) Ls) (pairs : AllPairs (AreApartFor R b) Ls) where
  ends_apart : AllPairs AreApart (ends R b Ls)
  ends_apart =
      AllPairs-filter AreApart has_cells (generations R Ls b)
      (AllPairs-map AreApart (λ L. generation R L b) Ls
      (AllPairs-weaker (AreApartFor R b) (λ P Q. AreApart (generation R P b) (generation R Q b))
      (λ P Q far. far b (omega arith)) Ls pairs))

  module _ (parts : List Generation) (ash : IsAsh R b G parts) where
    abbrev IsLiving : Generation → Type 0
    IsLiving Q = has_cells Q ≡ true → IsPartOfEnd R b b G parts ash Q

    living_part : (L : Generation) → Contains Ls L → IsLiving (generation R L b)
    living_part L one h =
        let P = part_around R b G parts Ls ash whole stay pairs L one (some_by_test (generation R L b) h) in
        (P.0, P.1, P.2.later b (omega arith))

    of_parts : All (IsPartOfEnd R b b G parts ash) (ends R b Ls)
    of_parts k d h =
        All-filter has_cells IsLiving (generations R Ls b)
        (All-map IsLiving (λ L. generation R L b) Ls
        (All-weaker (Contains Ls) (λ L. IsLiving (generation R L b)) living_part Ls (All-contains_itself Ls)))
        k d h (filter_passes has_cells (generations R Ls b) k d h)

    reached : (P : Generation) → Contains parts P → Contains (ends R b Ls) (generation R P b)
    reached P one =
        let L = core_of R b G parts Ls ash whole stay pairs P one in
        subst (Contains (ends R b Ls)) (sym (L.2.later b (omega arith)))
        (Contains-filter has_cells (generations R Ls b) (generation R L.0 b)
        (Contains-map (λ Q. generation R Q b) Ls L.0 L.1) (test_by_some (generation R L.0 b) L.2.lives))

    module _ (placed : All (IsWithin ash_age_limit) (cells G)) where
      pub ash_by_ends : (os : List Course) → AreEndsOfCourses R b b (ends R b Ls) os → IsAsh R b G (sets_of os)
      ash_by_ends os told = ash_of_ends R b b G parts ash placed (ends R b Ls) os told of_parts ends_apart reached

      pub no_end : (Q : Generation) → Contains (ends R b Ls) Q → ((P : Generation) → IsEnd R b b Q P → ⊥) → ⊥
      no_end Q one none =
          let P = All-contains (IsPartOfEnd R b b G parts ash) (ends R b Ls) Q of_parts one in
          none P.0 (part_is_end R b b G parts ash placed P.0 Q P.1 P.2)
