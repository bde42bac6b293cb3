-- What holds of each cell of a set holds of each cell of its parts, and what holds of each set holds of those of courses.
use Rattle.std.proofs.Common.{◌≡◌, ◌<◌, true, List, length, get_or, map, sym, ap, subst, ◌∙◌, arith}
use Rattle.std.specs.List.{All}
use Rattle.std.proofs.lemmas.List.{get_or-map, length-map}
use Rattle.std.proofs.lemmas.List.Elements.{All-weaker}
use Rattle.std.proofs.lemmas.List.Folds.{Any-from_list_any}
use Rattle.life_model.specs.Cell.{Cell, same_cell}
use Rattle.life_model.specs.Rule.{Rule}
use Rattle.life_model.specs.Generation.{Generation, cells, contains}
use Rattle.life_model.proofs.Cells.{same_cell-is}
use Rattle.life_model.proofs.Generations.{cells-contained, contains-cells}
use Rattle.life_objects.specs.Union.{IsSubsetOf}
use Rattle.life_orbit.specs.Course.{Course}
use Rattle.life_parts.specs.Parts.Parts.{AreIndependentParts, IsIndependentPart}

module _ (A : Cell → Type 0) where
  pub holds_of_cell : (G : Generation) → All A (cells G) → (g : Cell) → contains G g ≡ true → A g
  holds_of_cell G all g h =
      let one = Any-from_list_any (same_cell g) (cells G) (sym (contains-cells G g) ∙ h) in
      subst A (one.3 ∙ sym ((same_cell-is g one.1).0 one.4)) (all one.0 one.1 one.2)

  pub holds_of_subset : (P Q : Generation) → IsSubsetOf Q P → All A (cells P) → All A (cells Q)
  holds_of_subset P Q within all =
      All-weaker (λ c. contains Q c ≡ true) A (λ c h. holds_of_cell P all c (within c h)) (cells Q) (cells-contained Q)

  pub holds_of_parts : (R : Rule) (P : Generation) (Qs : List Generation) → AreIndependentParts R P Qs → All A (cells P) →
      All (λ Q. All A (cells Q)) Qs
  holds_of_parts R P Qs are all =
      All-weaker (IsIndependentPart R P) (λ Q. All A (cells Q)) (λ Q part. holds_of_subset P Q part.within all) Qs are.parts

-- what holds of each set of a list holds of the set of each course that has it
pub holds_of_courses : (A : Generation → Type 0) (os : List Course) (Qs : List Generation) → map (λ (o : Course). o.set) os ≡ Qs →
    All A Qs → All (λ (o : Course). A o.set) os
holds_of_courses A os Qs same all i d h =
    let as_long : length Qs ≡ length os = ap length (sym same) ∙ length-map os (λ (o : Course). o.set) in
    let within : i < length Qs = omega arith in
    subst A (ap (λ Rs. get_or Rs i d.set) (sym same) ∙ get_or-map (λ (o : Course). o.set) os i d d.set h) (all i d.set within)
