-- The place of a cell in a list of cells, and numbers in order.
use Rattle.std.proofs.Common.{◌≡◌, ℕ, ◌-◌, ◌<◌, ◌≤◌, ℤ, ◌≤ℤ◌, true, false, T, List, length, get_or, int_lt, inl, inr, sym, ap, subst, ◌∙◌, arith}
use Rattle.std.specs.List.{All, list_any}
use Rattle.std.proofs.lemmas.Bool.{cases_lt}
use Rattle.std.proofs.lemmas.Int.{ints}
use Rattle.std.proofs.lemmas.List.{get_or_default}
use Rattle.std.proofs.lemmas.List.Folds.{Any-from_list_any}
use Rattle.life_model.specs.Cell.{Cell, same_cell}
use Rattle.life_model.specs.Generation.{Generation, cells, contains, is_rising}
use Rattle.life_model.proofs.Cells.{same_cell-is}
use Rattle.life_model.proofs.Generations.{contains-cells}
use Rattle.life_cells.specs.Limits.{IsPlace}
use Rattle.life_classes.specs.Tags.{place_number}
use Rattle.life_islands.specs.Labels.{IsParting}
use Rattle.life_classes.proofs.Numbers.{cell_by_number}
use Rattle.life_classes.proofs.RowsRise.{numbers_rise}

not_less_itself : (x y : ℤ) → x ≡ y → int_lt x y ≡ true → ⊥
not_less_itself x y e h = grind (arith, ints)

both_bounds : (x y z : ℤ) → x ≤ℤ y → y ≡ z → int_lt x z ≡ false → x ≡ z
both_bounds x y z h e k = grind (arith, ints)

less_still : (x y z : ℤ) → x ≤ℤ y → int_lt y z ≡ true → int_lt x z ≡ true
less_still x y z h k = grind (arith, ints)

no_less_still : (x y z : ℤ) → x ≤ℤ y → int_lt x z ≡ false → int_lt y z ≡ false
no_less_still x y z h k = grind (arith, ints)

-- a list that has the cell has it in the place that its number parts the list at
pub parted_at : (G : Generation) (c : Cell) (cs : List Cell) (i : ℕ) → cs ≡ cells G → T (is_rising cs) → All IsPlace cs →
    ((k : ℕ) (d : Cell) → k < i → int_lt (place_number (get_or cs k d)) (place_number c) ≡ true) →
    ((k : ℕ) (d : Cell) → i ≤ k → k < length cs → int_lt (place_number (get_or cs k d)) (place_number c) ≡ false) →
    contains G c ≡ true → (i < length cs) × ((d : Cell) → get_or cs i d ≡ c)
parted_at G c cs i is rising placed before after has =
    let one = Any-from_list_any (same_cell c) cs (ap (list_any (same_cell c)) is ∙ sym (contains-cells G c) ∙ has) in
    let j = one.0 in
    let within : j < length cs = one.2 in
    let here : (d : Cell) → get_or cs j d ≡ c = λ d. get_or_default cs j d one.1 within ∙ one.3 ∙ sym ((same_cell-is c one.1).0 one.4) in
    elim (cases_lt j i) [
      | inl less ↦ absurd (not_less_itself _ _ (ap place_number (here c)) (before j c less))
      | inr no_less ↦
          let inside : i < length cs = omega arith in (
            inside,
            λ d.
                cell_by_number (get_or cs i d) c (placed i d inside) (subst IsPlace (here d) (placed j d within))
                (both_bounds _ _ _ (numbers_rise cs rising placed i j d no_less within) (ap place_number (here d)) (after i d (omega arith) inside)),
          )
    ]

-- a place whose neighbours are on its two sides parts the list
pub parting_here : (cs : List Cell) (number : ℤ) (at : ℕ) → T (is_rising cs) → All IsPlace cs → at ≤ length cs →
    ((d : Cell) → 0 < at → int_lt (place_number (get_or cs (at - 1) d)) number ≡ true) →
    ((d : Cell) → at < length cs → int_lt (place_number (get_or cs at d)) number ≡ false) → IsParting cs number at
parting_here cs number at rising placed within low high = record {
  within = within;
  before = λ k d h.
      less_still (place_number (get_or cs k d)) (place_number (get_or cs (at - 1) d)) number
      (numbers_rise cs rising placed k (at - 1) d (omega arith) (omega arith)) (low d (omega arith));
  after = λ k d h l.
      no_less_still (place_number (get_or cs at d)) (place_number (get_or cs k d)) number
      (numbers_rise cs rising placed at k d h l) (high d (omega arith));
}
