-- What is reported of engines, one after the other.
use Rattle.std.proofs.Common.{◌≡◌, ℕ, Bool, List, [], ◌∷◌, ◌++◌, map, refl, ap, ◌∙◌}
use Rattle.std.proofs.lemmas.List.{map-append}
use Rattle.std.proofs.lemmas.List.Sums.{fold-append}
use Rattle.life_model.specs.Generation.{Generation}
use Rattle.life_model.specs.Rule.{Rule}
use Rattle.life_answer.specs.CountedTales.{counted_tales, with_tale}
use Rattle.life_answer.specs.Tales.{tale_of}
use Rattle.life_answer.specs.Told.{told_of_engines}
use Rattle.life_answer.specs.declared.tale.Tale.{Tale}

counted_none : counted_tales [] ≡ []
unfolding counted_tales
counted_none = refl

counted_one : (ts : List Tale) (t : Tale) → counted_tales (ts ++ t ∷ []) ≡ with_tale t (counted_tales ts)
unfolding counted_tales
counted_one ts t = fold-append (λ lines tale. with_tale tale lines) [] ts (t ∷ [])

module _ (near : Bool) (R : Rule) (b : ℕ) where
  pub told_none : told_of_engines near R b [] ≡ []
  told_none = counted_none

  pub told_one_more : (Es : List Generation) (E : Generation) →
      told_of_engines near R b (Es ++ E ∷ []) ≡ with_tale (tale_of near R b E) (told_of_engines near R b Es)
  told_one_more Es E =
      ap counted_tales (map-append (tale_of near R b) Es (E ∷ []))
      ∙ counted_one (map (tale_of near R b) Es) (tale_of near R b E)
