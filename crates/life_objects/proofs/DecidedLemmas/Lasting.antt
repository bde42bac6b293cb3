-- What was found of ash is found of it within other bounds, and of what becomes of it.
use Rattle.std.proofs.Common.{◌≡◌, ℕ, ◌-◌, ◌≤◌, Some, List, [], ap, ◌∙◌}
use Rattle.std.specs.List.Sorted.{IsPermutation}
use Rattle.life_model.specs.Rule.{Rule}
use Rattle.life_model.specs.Generation.{Generation, empty}
use Rattle.life_model.specs.Evolution.{generation}
use Rattle.life_objects.specs.Ash.{IsAsh}
use Rattle.life_objects.specs.Union.{generations}
use Rattle.life_objects.proofs.Ashes.{IsAsh-bound, IsAsh-empty, IsAsh-later, IsAsh-wider, parts_of_empty}
use Rattle.life_objects.proofs.OneList.{one_list}
use Rattle.life_objects.specs.Decided.Decided.{ash_of, candidate_parts}
use Rattle.life_objects.proofs.DecidedLemmas.Deciding.{ash_if_found, found_if_ash}

-- these parts are found, in some order
abbrev pub AreFound : Rule → ℕ → Generation → List Generation → Type 0
AreFound R b G parts = (found : List Generation) × (ash_of R b G ≡ Some found) × IsPermutation parts found

module _ (R : Rule) where
  pub parts_found : (b : ℕ) (G : Generation) (parts : List Generation) → IsAsh R b G parts → AreFound R b G parts
  parts_found b G parts ash =
      let here = found_if_ash R b G parts ash in
      let found = candidate_parts R b G in
      (found, here, one_list R b b G parts found ash (ash_if_found R b G found here))

  pub nothing_found : (b : ℕ) → ash_of R b empty ≡ Some []
  nothing_found b =
      let here = found_if_ash R b empty [] (IsAsh-empty R b) in
      here ∙ ap (λ Ps. Some Ps) (parts_of_empty R b (candidate_parts R b empty)
      (ash_if_found R b empty (candidate_parts R b empty) here))

  pub found_later : (b c n : ℕ) (G : Generation) (parts : List Generation) → b ≤ c → ash_of R b G ≡ Some parts →
      AreFound R c (generation R G n) (generations R parts n)
  found_later b c n G parts le e =
      let ash = ash_if_found R b G parts e in
      parts_found c (generation R G n) (generations R parts n)
      (IsAsh-wider R b (generation R G n) (generations R parts n) (IsAsh-later R b G parts ash n) c le)

  pub found_within : (b c : ℕ) (G : Generation) (parts : List Generation) → b ≤ c →
      ash_of R b (generation R G b) ≡ Some parts → AreFound R c (generation R G c) (generations R parts (c - b))
  found_within b c G parts le e =
      parts_found c (generation R G c) (generations R parts (c - b))
      (IsAsh-bound R b c G parts le (ash_if_found R b (generation R G b) parts e))

  pub same_found : (b c n : ℕ) (G : Generation) (parts found : List Generation) → ash_of R b G ≡ Some parts →
      ash_of R c (generation R G n) ≡ Some found → IsPermutation (generations R parts n) found
  same_found b c n G parts found e f =
      one_list R b c (generation R G n) (generations R parts n) found
      (IsAsh-later R b G parts (ash_if_found R b G parts e) n) (ash_if_found R c (generation R G n) found f)
