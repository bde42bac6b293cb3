-- The places beside a set's cells are among those that are tested.
use Rattle.std.proofs.Common.{◌≡◌, true, ◌||◌, sym, subst, ◌∙◌}
use Rattle.std.specs.List.{Contains, list_any}
use Rattle.std.proofs.lemmas.Bool.{or_left, or_right}
use Rattle.std.proofs.lemmas.List.Elements.{recursion_from_All}
use Rattle.std.proofs.lemmas.List.Folds.{list_any_at}
use Rattle.life_model.specs.Cell.{Cell, IsNear, around, same_cell}
use Rattle.life_model.specs.Generation.{Generation, contains}
use Rattle.life_model.specs.Evolution.{candidates}
use Rattle.life_model.proofs.Cells.{same_cell-is}
use Rattle.life_model.proofs.Evolution.{contains-candidates}
use Rattle.life_model.proofs.Generations.{contains-from_list}
use Rattle.life_objects.proofs.Ring.{each_near}
use Rattle.life_objects.proofs.Found.{some_passes}

module _ (G : Generation) (x : Cell) where
  abbrev Shown : Cell → Type 0
  Shown y = contains G y ≡ true → (contains G x || list_any (contains G) (around x)) ≡ true

  shown : (y : Cell) → IsNear y x → Shown y
  shown =
      each_near x Shown (λ h. or_left (contains G x) (list_any (contains G) (around x)) h)
      (recursion_from_All Shown (around x) (λ k d l h.
      or_right (contains G x) (list_any (contains G) (around x)) (list_any_at (contains G) (around x) k d l h)))

  pub candidate : (c : Cell) → contains G c ≡ true → IsNear c x → Contains (candidates G) x
  candidate c h near =
      let one = some_passes (same_cell x) (candidates G)
      (sym (contains-from_list (candidates G) x) ∙ contains-candidates G x ∙ shown c near h) in
      subst (Contains (candidates G)) (sym ((same_cell-is x one.0).0 one.2)) one.1
