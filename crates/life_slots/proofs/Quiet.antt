-- Rows without a live cell near them have none in the next generation.
use Rattle.std.proofs.Common.{◌≡◌, ℕ, pos, ◌+ℤ◌, ◌-ℤ◌, ◌+◌, ◌-◌, ◌<◌, ◌≤◌, ⊎_elim, true, false, slice_index, sym, ap, ◌∙◌, arith}
use Rattle.std.specs.Int.{bit_at}
use Rattle.std.proofs.lemmas.Int.{ints}
use Rattle.std.proofs.lemmas.Nat.Bits.{bit_at-zero}
use Rattle.life_model.specs.Rule.{Rule}
use Rattle.life_model.specs.Cell.{Cell, plus}
use Rattle.life_model.specs.Generation.{Generation, contains, empty}
use Rattle.life_model.specs.Evolution.{next}
use Rattle.life_model.proofs.Generations.{contains-empty}
use Rattle.life_model.proofs.Near.{next_near}
use Rattle.life_plane.specs.declared.tile.Tile.{Tile}
use Rattle.life_plane.specs.Flags.{as_bit}
use Rattle.life_slots.proofs.Orders.{true_or_false}
use Rattle.life_slots.specs.Kernels.Rows.{state}
use Rattle.life_slots.specs.Areas.{ShowsWithin}
use Rattle.life_slots.proofs.Local.{AreAlikeAround, same_next}

none_of_empty : (c : Cell) → state empty c ≡ 0
none_of_empty c = ap as_bit (contains-empty c)

none_after_empty : (R : Rule) (c : Cell) → state (next R empty) c ≡ 0
none_after_empty R c =
    ⊎_elim
    (λ (live : contains (next R empty) c ≡ true).
    let near = next_near R empty c live in
    let never : true ≡ false = sym near.1 ∙ contains-empty near.0 in
    absurd cc)
    (λ (dead : contains (next R empty) c ≡ false). ap as_bit dead)
    (true_or_false (contains (next R empty) c))

module _ (G : Generation) (place : Cell) (rim : ℕ) (area : Tile) (shows : ShowsWithin rim area G place)
    (x r : ℕ) (west : rim + 1 ≤ x) (east : x + (rim + 1) < 64) (north : rim + 1 ≤ r) (south : r + (rim + 1) < 64)
    (none : (y : ℕ) → r ≤ y + 1 → y ≤ r + 1 → slice_index area.rows y ≡ 0) where
  dead_at : (a b column row : ℕ) → a < 3 → b < 3 → column + 1 ≡ x + a → row + 1 ≡ r + b →
      state G (((place.0 +ℤ pos x) -ℤ pos 1) +ℤ pos a, ((place.1 +ℤ pos r) -ℤ pos 1) +ℤ pos b) ≡ 0
  dead_at a b column row wide tall column_is row_is =
      let across : (((place.0 +ℤ pos x) -ℤ pos 1) +ℤ pos a) ≡ (place.0 +ℤ pos column) = omega (arith, ints) in
      let down : (((place.1 +ℤ pos r) -ℤ pos 1) +ℤ pos b) ≡ (place.1 +ℤ pos row) = omega (arith, ints) in
      (λ i. state G (across i, down i))
      ∙ sym (shows.cell column row (omega arith) (omega arith) (omega arith) (omega arith))
      ∙ ap (λ w. bit_at w column) (none row (omega arith) (omega arith))
      ∙ bit_at-zero column

  alike : AreAlikeAround G empty (place.0 +ℤ pos x) (place.1 +ℤ pos r)
  alike = record { same = λ a b wide tall. dead_at a b (x + a - 1) (r + b - 1) wide tall (omega arith) (omega arith) ∙ sym (none_of_empty _) }

  -- a cell of a row that has no live cell, nor has the one above or the one below
  pub quiet_cell : (R : Rule) → state (next R G) (plus place (pos x, pos r)) ≡ 0
  quiet_cell R = same_next G empty _ _ alike R ∙ none_after_empty R (place.0 +ℤ pos x, place.1 +ℤ pos r)
