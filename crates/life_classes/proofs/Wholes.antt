-- Labels of which all that matter have one root.
use Rattle.std.proofs.Common.{◌≡◌, ◌≢◌, ℕ, ◌<◌, pos, List, length, get_or, inl, inr, sym, refl, ap, ◌∙◌, arith}
use Rattle.std.proofs.lemmas.Bool.{cases_lt}
use Rattle.std.proofs.lemmas.List.{get_or_default}
use Rattle.life_model.specs.Cell.{origin}
use Rattle.life_model.specs.Rule.{Rule}
use Rattle.life_model.specs.Generation.{Generation, cells, contains, empty}
use Rattle.life_model.specs.Evolution.{next}
use Rattle.life_model.proofs.Moves.{nothing_or_some}
use Rattle.life_model.proofs.Near.{next_near}
use Rattle.life_objects.proofs.Unions.{in_empty}
use Rattle.life_classes.specs.declared.class.Class.{Class}
use Rattle.life_classes.specs.declared.labels.Labelled.{Labelled}
use Rattle.life_classes.specs.declared.tags.Tag.{Tag}
use Rattle.life_classes.specs.Forest.{root}
use Rattle.life_classes.specs.Labels.{AreLabelled, AreReached, HasOneRoot, class_of_root, classes_by}
use Rattle.life_classes.specs.Tracking.{AreFew}
use Rattle.life_classes.proofs.Chosen.{class_at, count_classes, in_root, of_root}
use Rattle.life_classes.proofs.Forests.{root-le}
use Rattle.life_classes.proofs.Reached.{touching}

-- each cell of the next generation is at most one away from one of these
pub reached_next : (R : Rule) (l : Labelled) (H : Generation) → H ≡ next R l.cells → AreReached l H
reached_next R l H is c h =
    let near = next_near R l.cells c (ap (λ G. contains G c) (sym is) ∙ h) in
    touching l.cells c near.0 near.1 near.2

module _ (l : Labelled) (f : List ℕ) (labelled : AreLabelled l f) where
  abbrev tag : Tag
  tag = record { number = pos 0; label = 0 }

  -- ---- at most one class lives

  lives_at : (a : Labelled) (k : ℕ) (e : Class) → k < length l.tags.items → (r : ℕ) →
      root f (get_or l.tags.items k tag).label ≡ r → r < length f → (get_or (classes_by a l f) r e).last ≢ empty
  lives_at a k e h r is inside gone =
      let count = labelled.tagged.count in
      in_empty (get_or (cells l.cells) k origin)
      (ap (λ H. contains H (get_or (cells l.cells) k origin)) (sym gone ∙ ap (λ (c : Class). c.last) (class_at a l f r e inside))
      ∙ of_root l f r k tag origin (omega arith) h is)

  root_within : (k : ℕ) → k < length l.tags.items → root f (get_or l.tags.items k tag).label < length f
  root_within k h =
      let within = labelled.within k tag h in
      omega (arith, root-le f (get_or l.tags.items k tag).label)

  -- a class that lives has a cell
  place_of_living : (a : Labelled) (r : ℕ) (e : Class) → r < length f → (get_or (classes_by a l f) r e).last ≢ empty →
      (k : ℕ) × (k < length l.tags.items) × (root f (get_or l.tags.items k tag).label ≡ r)
  place_of_living a r e inside lives =
      elim (nothing_or_some (get_or (classes_by a l f) r e).last) [
        | inl none ↦ absurd (lives none)
        | inr some ↦
            let w = in_root l f r some.0 (ap (λ (c : Class). contains c.last some.0) (sym (class_at a l f r e inside)) ∙ some.1) in
            (w.place, w.tagged, w.label tag)
      ]

  pub few_by_root : (a : Labelled) → HasOneRoot l.tags.items f → AreFew (classes_by a l f)
  few_by_root a one i j d less h live other =
      let count = count_classes a l f in
      let first = place_of_living a i d (omega arith) live in
      let second = place_of_living a j d (omega arith) other in
      let same : i ≡ j = sym first.2 ∙ one first.0 second.0 tag tag first.1 second.1 ∙ second.2 in
      omega arith

  root_by_few : (a : Labelled) → AreFew (classes_by a l f) → (i j : ℕ) → i < length l.tags.items → j < length l.tags.items →
      (root f (get_or l.tags.items i tag).label < root f (get_or l.tags.items j tag).label → ⊥)
  root_by_few a few i j h k less =
      let count = count_classes a l f in
      let r = root f (get_or l.tags.items i tag).label in
      let s = root f (get_or l.tags.items j tag).label in
      let e = class_of_root a l f 0 in
      let inside = root_within i h in
      let inside_too = root_within j k in
      few r s e less (omega arith) (lives_at a i e h r refl inside) (lives_at a j e k s refl inside_too)

  pub one_root_by_few : (a : Labelled) → AreFew (classes_by a l f) → HasOneRoot l.tags.items f
  one_root_by_few a few i j d e h k =
      let r = root f (get_or l.tags.items i tag).label in
      let s = root f (get_or l.tags.items j tag).label in
      let same : r ≡ s = elim (cases_lt r s) [
        | inl less ↦ absurd (root_by_few a few i j h k less)
        | inr more ↦ elim (cases_lt s r) [
          | inl less ↦ absurd (root_by_few a few j i k h less)
          | inr both ↦ omega arith
        ]
      ] in
      ap (λ (t : Tag). root f t.label) (get_or_default l.tags.items i d tag h) ∙ same
      ∙ ap (λ (t : Tag). root f t.label) (get_or_default l.tags.items j tag e k)
