-- What the tests of cells and sets that touch say.
use Rattle.std.proofs.Common.{◌≡◌, Bool, true, not, List, get_or, sym, subst, ◌∙◌, arith}
use Rattle.std.specs.List.{AllPairs, Contains, list_any}
use Rattle.std.proofs.lemmas.Int.{ints}
use Rattle.life_model.specs.Cell.{Cell, IsNear, same_cell}
use Rattle.life_model.specs.Generation.{Generation, cells, contains}
use Rattle.life_model.proofs.Cells.{same_cell-is}
use Rattle.life_model.proofs.Generations.{contains-cells}
use Rattle.life_model.proofs.Moves.{same_cell_itself}
use Rattle.life_objects.proofs.DecidedLemmas.Tests.{each_pair_by, each_pair_tells, not_true, true_not, within_by, within_tells}
use Rattle.life_parts.specs.Parts.Splittings.{AreUntouching}
use Rattle.life_parts.specs.Independent.Groupings.{are_untouching, touch, touches}
use Rattle.life_objects.proofs.Found.{any_passes, some_passes}

near_by_touch : (c d : Cell) → touch c d ≡ true → IsNear c d
near_by_touch c d h =
    let small = within_tells 1 c d h in
    let across = small.0 in
    let along = small.1 in
    record {
      left = omega (arith, ints);
      right = omega (arith, ints);
      above = omega (arith, ints);
      below = omega (arith, ints);
    }

touch_by_near : (c d : Cell) → IsNear c d → touch c d ≡ true
touch_by_near c d h =
    within_by 1 c d (omega (arith, ints)) (omega (arith, ints)) (omega (arith, ints)) (omega (arith, ints))

module _ (H : Generation) where
  pub listed_cell : (c : Cell) → Contains (cells H) c → contains H c ≡ true
  listed_cell c one = contains-cells H c ∙ any_passes (same_cell c) (cells H) c one (same_cell_itself c)

  pub cell_listed : (c : Cell) → contains H c ≡ true → Contains (cells H) c
  cell_listed c h =
      let one = some_passes (same_cell c) (cells H) (sym (contains-cells H c) ∙ h) in
      subst (Contains (cells H)) (sym ((same_cell-is c one.0).0 one.2)) one.1

  pub touched : (c : Cell) → touches c H ≡ true → (d : Cell) × (contains H d ≡ true) × IsNear c d
  unfolding touches
  touched c h =
      let one = some_passes (touch c) (cells H) h in
      (one.0, listed_cell one.0 one.1, near_by_touch c one.0 one.2)

  pub touches_by_near : (c d : Cell) → contains H d ≡ true → IsNear c d → touches c H ≡ true
  unfolding touches
  touches_by_near c d h near = any_passes (touch c) (cells H) d (cell_listed d h) (touch_by_near c d near)

abbrev sets_touch : Generation → Generation → Bool
sets_touch A B = list_any (λ c. touches c B) (cells A)

pub untouching_by_test : (Hs : List Generation) → are_untouching Hs ≡ true → AllPairs AreUntouching Hs
unfolding are_untouching
untouching_by_test Hs h i j x less within c d in_A in_B near =
    let A = get_or Hs i x in
    let B = get_or Hs j x in
    not_true (sets_touch A B) (each_pair_tells (λ A B. not (sets_touch A B)) Hs h i j x less within)
    (any_passes (λ c. touches c B) (cells A) c (cell_listed A c in_A) (touches_by_near B c d in_B near))

pub test_by_untouching : (Hs : List Generation) → AllPairs AreUntouching Hs → are_untouching Hs ≡ true
unfolding are_untouching
test_by_untouching Hs far =
    each_pair_by (λ A B. not (sets_touch A B)) Hs (λ i j x less within.
    let A = get_or Hs i x in
    let B = get_or Hs j x in
    true_not (sets_touch A B) (λ h.
    let c = some_passes (λ c. touches c B) (cells A) h in
    let d = touched B c.0 c.2 in
    far i j x less within c.0 d.0 (listed_cell A c.0 c.1) d.1 d.2))
