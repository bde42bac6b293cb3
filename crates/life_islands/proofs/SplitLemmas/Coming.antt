-- Lists of the independent parts of one set have the same parts.
use Rattle.std.proofs.Common.{List}
use Rattle.std.specs.List.{All, Contains}
use Rattle.std.proofs.lemmas.List.Elements.{All-contains, All-contains_itself, All-weaker}
use Rattle.life_model.specs.Rule.{Rule}
use Rattle.life_model.specs.Generation.{Generation}
use Rattle.life_parts.specs.Parts.Parts.{AreIndependentParts}
use Rattle.life_parts.proofs.PartsLemmas.Lists.{part_of_both}

-- what holds of each part of the one list holds of each of the other
pub holds_of_others : (A : Generation → Type 0) (R : Rule) (P : Generation) (Qs others : List Generation) →
    AreIndependentParts R P Qs → AreIndependentParts R P others → All A others → All A Qs
holds_of_others A R P Qs others are too all =
    All-weaker (Contains Qs) A (λ Q one. All-contains A others Q all (part_of_both R P Qs others are too Q one)) Qs
    (All-contains_itself Qs)
