-- Numbers of cells in order, and which cells are near each other by their numbers.
use Rattle.std.proofs.Common.{◌≡◌, ◌⊎◌, ℕ, ◌-◌, ◌^◌, ◌<◌, ℤ, pos, neg_ℤ, ◌+ℤ◌, ◌-ℤ◌, ◌≤ℤ◌, List, length, get_or}
use Rattle.std.proofs.Common.{inl, inr, refl, arith}
use Rattle.std.specs.List.{All}
use Rattle.std.proofs.lemmas.Int.{ints}
use Rattle.life_model.specs.Cell.{Cell, IsNear, origin}
use Rattle.life_model.specs.Generation.{cells}
use Rattle.life_model.proofs.Cells.{pair}
use Rattle.life_model.proofs.Generations.{cells-rise}
use Rattle.life_cells.specs.Limits.{IsPlace}
use Rattle.life_objects.specs.Apart.{AreNear}
use Rattle.life_objects.proofs.Distances.{AreNear-swap}
use Rattle.life_classes.specs.declared.labels.Labelled.{Labelled}
use Rattle.life_classes.specs.declared.tags.Tag.{Tag}
use Rattle.life_classes.specs.Labels.{AreLabelled, AreNearAt, IsTagged}
use Rattle.life_classes.specs.Tags.{AreRisingTags, IsNumbered, place_number}
use Rattle.life_classes.specs.Ties.{IsRowsAway}
use Rattle.life_classes.proofs.RowsRise.{numbers_rise}

-- cells with the same number are the same
pub cell_by_number : (c d : Cell) → IsPlace c → IsPlace d → place_number c ≡ place_number d → c ≡ d
cell_by_number c d p q same =
    let a = p.left in
    let b = p.right in
    let e = q.left in
    let f = q.right in
    pair (omega (arith, ints)) (omega (arith, ints))

-- cells whose numbers, but for the row, are at most one apart are at most one away from each other
pub near_by_number : (c g : Cell) (row : ℤ) → IsPlace c → IsPlace g →
    ((row ≡ pos 0) ⊎ ((row ≡ pos (2 ^ 31)) ⊎ (row ≡ neg_ℤ (pos (2 ^ 31))))) →
    (place_number c +ℤ row +ℤ neg_ℤ (pos 1)) ≤ℤ place_number g →
    place_number g ≤ℤ (place_number c +ℤ row +ℤ pos 1) → IsNear c g
near_by_number c g row p q rows from to =
    let a = p.left in
    let b = p.right in
    let d = q.left in
    let e = q.right in
    elim rows [
      | inl level ↦
          record { left = omega (arith, ints); right = omega (arith, ints); above = omega (arith, ints); below = omega (arith, ints) }
      | inr other ↦ elim other [
        | inl below ↦
            record { left = omega (arith, ints); right = omega (arith, ints); above = omega (arith, ints); below = omega (arith, ints) }
        | inr above ↦
            record { left = omega (arith, ints); right = omega (arith, ints); above = omega (arith, ints); below = omega (arith, ints) }
      ]
    ]

-- cells whose numbers, but for the row, are at most two apart are near each other
pub two_by_number : (c g : Cell) (row : ℤ) → IsPlace c → IsPlace g →
    ((row ≡ pos 0) ⊎ ((row ≡ pos (2 ^ 31)) ⊎ (row ≡ pos (2 ^ 32)))) →
    (place_number c -ℤ row -ℤ pos 2) ≤ℤ place_number g → place_number g ≤ℤ (place_number c -ℤ row +ℤ pos 2) → AreNear g c
two_by_number c g row p q rows from to =
    let a = p.left in
    let b = p.right in
    let d = q.left in
    let e = q.right in
    elim rows [
      | inl level ↦
          record { left = omega (arith, ints); right = omega (arith, ints); above = omega (arith, ints); below = omega (arith, ints) }
      | inr other ↦ elim other [
        | inl below ↦
            record { left = omega (arith, ints); right = omega (arith, ints); above = omega (arith, ints); below = omega (arith, ints) }
        | inr above ↦
            record { left = omega (arith, ints); right = omega (arith, ints); above = omega (arith, ints); below = omega (arith, ints) }
      ]
    ]

-- ---- tags of cells

module _ (l : Labelled) (tagged : IsTagged l) where
  pub number_at : (k : ℕ) (d : Tag) (e : Cell) → k < length l.tags.items →
      (get_or l.tags.items k d).number ≡ place_number (get_or (cells l.cells) k e)
  number_at k d e h = tagged.numbers k d e h

  pub place_at : (k : ℕ) (e : Cell) → k < length l.tags.items → IsPlace (get_or (cells l.cells) k e)
  place_at k e h = let count = tagged.count in tagged.placed k e (omega arith)

  pub tags_rise : AreRisingTags l.tags.items
  tags_rise i j d le h =
      let count = tagged.count in
      let first = number_at i d origin (omega arith) in
      let second = number_at j d origin h in
      let up = numbers_rise (cells l.cells) (cells-rise l.cells) tagged.placed i j origin le (omega arith) in
      omega (arith, ints)

  pub tags_numbered : All IsNumbered l.tags.items
  tags_numbered k d h =
      let number = number_at k d origin h in
      let p = place_at k origin h in
      let a = p.left in
      let b = p.right in
      let e = p.above in
      let f = p.below in
      record { low = omega (arith, ints); high = omega (arith, ints) }

  -- cells in two places whose numbers, but for the row, are at most two apart are near each other
  pub near_at : (i j : ℕ) (row : ℤ) (t : Tag) → i < length l.tags.items → j < length l.tags.items →
      ((row ≡ pos 0) ⊎ ((row ≡ pos (2 ^ 31)) ⊎ (row ≡ pos (2 ^ 32)))) →
      ((get_or l.tags.items j t).number -ℤ row -ℤ pos 2) ≤ℤ (get_or l.tags.items i t).number →
      (get_or l.tags.items i t).number ≤ℤ ((get_or l.tags.items j t).number -ℤ row +ℤ pos 2) → AreNearAt l i j
  near_at i j row t h k rows from to d e =
      let a = number_at i t d h in
      let b = number_at j t e k in
      two_by_number (get_or (cells l.cells) j e) (get_or (cells l.cells) i d) row (place_at j e k) (place_at i d h) rows
      (omega (arith, ints)) (omega (arith, ints))

  -- the cell before another is near it if its number is at most two less
  pub before_near : (n : ℕ) (number : ℤ) (t : Tag) → 0 < n → n < length l.tags.items →
      number ≡ (get_or l.tags.items n t).number → (number -ℤ pos 2) ≤ℤ (get_or l.tags.items (n - 1) t).number →
      AreNearAt l (n - 1) n
  before_near n number t some h is near =
      let up = tags_rise (n - 1) n t (omega arith) h in
      near_at (n - 1) n (pos 0) t (omega arith) h (inl refl) (omega (arith, ints)) (omega (arith, ints))

  -- a cell is near another if its number is at most two from that of a place above or below the other
  pub away_near : (k n : ℕ) (number : ℤ) (t : Tag) → k < length l.tags.items → n < length l.tags.items →
      IsRowsAway l.tags.items n number → (number -ℤ pos 2) ≤ℤ (get_or l.tags.items k t).number →
      (get_or l.tags.items k t).number ≤ℤ (number +ℤ pos 2) → AreNearAt l k n
  away_near k n number t h i away from to =
      let is = away.is t in
      elim away.rows [
        | inl above ↦ near_at k n away.row t h i (inr above) (omega (arith, ints)) (omega (arith, ints))
        | inr below ↦ λ d e.
            AreNear-swap (get_or (cells l.cells) n e) (get_or (cells l.cells) k d)
            (elim below [
              | inl next ↦ near_at n k (pos (2 ^ 31)) t i h (inr (inl refl)) (omega (arith, ints)) (omega (arith, ints)) e d
              | inr further ↦ near_at n k (pos (2 ^ 32)) t i h (inr (inr refl)) (omega (arith, ints)) (omega (arith, ints)) e d
            ])
      ]

-- the same labels, with a forest of the same length
pub relabelled : (l : Labelled) (f g : List ℕ) → length g ≡ length f → AreLabelled l f → AreLabelled l g
relabelled l f g long labelled = record {
  tagged = labelled.tagged;
  within = λ k d h. let within = labelled.within k d h in omega arith;
}
