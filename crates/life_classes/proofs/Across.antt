-- Cells that are near each other are joined, if those of one row are and those of two rows are.
use Rattle.std.proofs.Common.{◌≡◌, ◌⊎◌, ℕ, ◌^◌, ◌<◌, ℤ, pos, ◌+ℤ◌, ◌-ℤ◌, ◌≤ℤ◌, List, length, get_or, inl, inr, sym, ap, refl, subst, ◌∙◌, arith}
use Rattle.std.proofs.lemmas.Bool.{cases_lt}
use Rattle.std.proofs.lemmas.Int.{ints}
use Rattle.life_model.specs.Cell.{Cell, origin}
use Rattle.life_model.specs.Generation.{cells, contains}
use Rattle.life_objects.specs.Apart.{AreNear}
use Rattle.life_objects.proofs.Distances.{AreNear-swap}
use Rattle.life_classes.specs.declared.class.Class.{Class}
use Rattle.life_classes.specs.declared.labels.Labelled.{Labelled}
use Rattle.life_classes.specs.Labels.{AreLabelled, classes_by}
use Rattle.life_classes.specs.Tracking.{AreApartNow}
use Rattle.life_classes.proofs.Chosen.{class_at, count_classes, in_root}
use Rattle.life_classes.proofs.Level.{AreJoinedInRows, level, no_tag, number_of_tag, root_of_tag}
use Rattle.life_classes.proofs.Lookups.{either}
use Rattle.life_classes.proofs.Numbers.{number_at, tags_rise}

abbrev pub cell_at : Labelled → ℕ → Cell
cell_at l k = get_or (cells l.cells) k origin

-- the number of one tag is at most two from that of the place one row or two rows above the other
pub record IsAcross (l : Labelled) (i j : ℕ) : Type 0 where
  pub row : ℤ
  pub rows : (row ≡ pos (2 ^ 31)) ⊎ (row ≡ pos (2 ^ 32))
  pub from : (number_of_tag l.tags.items j -ℤ row -ℤ pos 2) ≤ℤ number_of_tag l.tags.items i
  pub to : number_of_tag l.tags.items i ≤ℤ (number_of_tag l.tags.items j -ℤ row +ℤ pos 2)

-- the labels of two cells are joined, if they are near each other, in different rows
abbrev pub AreJoinedAcross : Labelled → List ℕ → Type 0
AreJoinedAcross l f =
    (i j : ℕ) → i < length l.tags.items → j < length l.tags.items → AreNear (cell_at l i) (cell_at l j) → IsAcross l i j →
    root_of_tag l.tags.items f i ≡ root_of_tag l.tags.items f j

-- the labels of two cells are joined, if they are near each other
abbrev pub AreJoined : Labelled → List ℕ → Type 0
AreJoined l f =
    (i j : ℕ) → i < length l.tags.items → j < length l.tags.items → AreNear (cell_at l i) (cell_at l j) →
    root_of_tag l.tags.items f i ≡ root_of_tag l.tags.items f j

module _ (l : Labelled) (f : List ℕ) (labelled : AreLabelled l f) where
  module _ (joined : AreJoinedInRows l.tags.items f) (across : AreJoinedAcross l f) where
    -- a cell and another in the same row, and a cell and one that is not above it
    same_row : (i j : ℕ) → i < length l.tags.items → j < length l.tags.items → AreNear (cell_at l i) (cell_at l j) →
        (cell_at l i).1 ≡ (cell_at l j).1 → root_of_tag l.tags.items f i ≡ root_of_tag l.tags.items f j
    same_row i j h k near row =
        let a = number_at l labelled.tagged i no_tag origin h in
        let b = number_at l labelled.tagged j no_tag origin k in
        let rise = tags_rise l labelled.tagged in
        let left = near.left in
        let right = near.right in
        elim (cases_lt j i) [
          | inl less ↦ sym (level l.tags.items f rise joined j i (omega arith) h (omega (arith, ints)))
          | inr more ↦ level l.tags.items f rise joined i j more k (omega (arith, ints))
        ]

    not_below : (i j : ℕ) → i < length l.tags.items → j < length l.tags.items → AreNear (cell_at l i) (cell_at l j) →
        (cell_at l i).1 ≤ℤ (cell_at l j).1 → root_of_tag l.tags.items f i ≡ root_of_tag l.tags.items f j
    not_below i j h k near above =
        let a = number_at l labelled.tagged i no_tag origin h in
        let b = number_at l labelled.tagged j no_tag origin k in
        let left = near.left in
        let right = near.right in
        let up = near.above in
        let down = near.below in
        elim (either (cell_at l j).1 (cell_at l i).1) [
          | inl here ↦ same_row i j h k near (omega (arith, ints))
          | inr lower ↦ elim (either (cell_at l j).1 ((cell_at l i).1 +ℤ pos 1)) [
            | inl next ↦
                across i j h k near
                (record { row = pos (2 ^ 31); rows = inl refl; from = omega (arith, ints); to = omega (arith, ints) })
            | inr further ↦
                across i j h k near
                (record { row = pos (2 ^ 32); rows = inr refl; from = omega (arith, ints); to = omega (arith, ints) })
          ]
        ]

    pub all_joined : AreJoined l f
    all_joined i j h k near = elim (either (cell_at l i).1 (cell_at l j).1) [
      | inl above ↦ not_below i j h k near above
      | inr below ↦ sym (not_below j i k h (AreNear-swap (cell_at l i) (cell_at l j) near) (omega (arith, ints)))
    ]

  pub apart_by_joined : AreJoined l f → (a : Labelled) → AreApartNow (classes_by a l f)
  apart_by_joined joined a i j d before h c e x y near =
      let count = count_classes a l f in
      let first = class_at a l f i d (omega arith) in
      let second = class_at a l f j d (omega arith) in
      let v = in_root l f i c (ap (λ (k : Class). contains k.last c) (sym first) ∙ x) in
      let w = in_root l f j e (ap (λ (k : Class). contains k.last e) (sym second) ∙ y) in
      let one =
      joined v.place w.place v.tagged w.tagged
      (subst (λ q. AreNear q (cell_at l w.place)) (sym (v.is origin)) (subst (AreNear c) (sym (w.is origin)) near)) in
      let same : i ≡ j = sym (v.label no_tag) ∙ one ∙ w.label no_tag in
      absurd (omega arith)
