-- What becomes of the classes that labels give when two roots are joined.
use Rattle.std.proofs.Common.{◌≡◌, ℕ, ◌<◌, pos, Bool, true, false, List, length, get_or, inl, inr, sym, refl, ap, subst, ◌∙◌, arith}
use Rattle.std.proofs.lemmas.Bool.{cases_eq}
use Rattle.life_model.specs.Cell.{Cell, origin}
use Rattle.life_model.specs.Generation.{Generation, cells, contains, empty, from_list}
use Rattle.life_objects.specs.Apart.{AreApart}
use Rattle.life_objects.specs.Union.{union}
use Rattle.life_objects.proofs.Distances.{AreApart-swap}
use Rattle.life_objects.proofs.Sides.{within_each_other}
use Rattle.life_objects.proofs.Unions.{in_empty, in_first, in_second, in_union}
use Rattle.life_classes.specs.declared.class.Class.{Class}
use Rattle.life_classes.specs.declared.labels.Labelled.{Labelled}
use Rattle.life_classes.specs.declared.tags.Tag.{Tag}
use Rattle.life_classes.specs.Forest.{IsJoined, IsPut, moved, root}
use Rattle.life_classes.specs.Labels.{AreLabelled, AreNearAt, cells_of_root, class_of_root, classes_by}
use Rattle.life_classes.specs.Ties.{IsTied}
use Rattle.life_classes.specs.Tracking.{LeadTo}
use Rattle.life_classes.proofs.Chosen.{IsChosen, class_at, count_classes, in_root, of_root}
use Rattle.life_classes.proofs.Forests.{moved_here, moved_other, root-le}
use Rattle.life_classes.proofs.Leading.{lead_same}
use Rattle.life_classes.proofs.Merging.{in_turn}
use Rattle.life_classes.proofs.Putting.{lead_put}

-- the cells of a root, as a set
abbrev pub set_of_root : Labelled → List ℕ → ℕ → Generation
set_of_root l f r = from_list (cells_of_root l f r)

module _ (l : Labelled) (f g : List ℕ) (high low : ℕ) (put : IsPut f g high low) where
  differ : low ≡ high → ⊥
  differ e = let lower = put.lower in omega arith

  -- what was chosen by its root is chosen by the root that this one now points to
  chosen_then : (r s : ℕ) (c : Cell) → IsChosen (cells l.cells) l.tags.items f r c → moved high low r ≡ s →
      contains (set_of_root l g s) c ≡ true
  chosen_then r s c w goes =
      let t : Tag = record { number = pos 0; label = 0 } in
      ap (λ d. contains (set_of_root l g s) d) (sym (w.is origin))
      ∙ of_root l g s w.place t origin w.inside w.tagged (put.goes (get_or l.tags.items w.place t).label ∙ ap (moved high low) (w.label t) ∙ goes)

  chosen_before : (s : ℕ) (c : Cell) → contains (set_of_root l g s) c ≡ true →
      (r : ℕ) × (moved high low r ≡ s) × (contains (set_of_root l f r) c ≡ true)
  chosen_before s c h =
      let t : Tag = record { number = pos 0; label = 0 } in
      let w = in_root l g s c h in
      let r = root f (get_or l.tags.items w.place t).label in (
        r,
        sym (put.goes (get_or l.tags.items w.place t).label) ∙ w.label t,
        ap (λ d. contains (set_of_root l f r) d) (sym (w.is origin)) ∙ of_root l f r w.place t origin w.inside w.tagged refl,
      )

  pub low_then : set_of_root l g low ≡ union (set_of_root l f low) (set_of_root l f high)
  low_then =
      within_each_other (set_of_root l g low) (union (set_of_root l f low) (set_of_root l f high))
      (λ c h.
      let w = chosen_before low c h in
      elim (cases_eq w.0 high) [
        | inl here ↦
            in_second (set_of_root l f low) (set_of_root l f high) c
            (ap (λ r. contains (set_of_root l f r) c) (sym here) ∙ w.2)
        | inr other ↦
            in_first (set_of_root l f low) (set_of_root l f high) c
            (ap (λ r. contains (set_of_root l f r) c) (sym (sym (moved_other high low w.0 other) ∙ w.1)) ∙ w.2)
      ])
      (λ c h.
      elim (in_union (set_of_root l f low) (set_of_root l f high) c h) [
        | inl one ↦ chosen_then low low c (in_root l f low c one) (moved_other high low low differ)
        | inr other ↦ chosen_then high low c (in_root l f high c other) (moved_here high low high refl)
      ])

  pub high_then : set_of_root l g high ≡ empty
  high_then =
      within_each_other (set_of_root l g high) empty
      (λ c h.
      let w = chosen_before high c h in
      absurd (elim (cases_eq w.0 high) [
        | inl here ↦ differ (sym (moved_here high low w.0 here) ∙ w.1)
        | inr other ↦ other (sym (moved_other high low w.0 other) ∙ w.1)
      ]))
      (λ c h. absurd (in_empty c h))

  pub others_then : (r : ℕ) → (r ≡ low → ⊥) → (r ≡ high → ⊥) → set_of_root l g r ≡ set_of_root l f r
  others_then r not_low not_high =
      within_each_other (set_of_root l g r) (set_of_root l f r)
      (λ c h.
      let w = chosen_before r c h in
      elim (cases_eq w.0 high) [
        | inl here ↦ absurd (not_low (sym w.1 ∙ moved_here high low w.0 here))
        | inr other ↦ ap (λ q. contains (set_of_root l f q) c) (sym (sym (moved_other high low w.0 other) ∙ w.1)) ∙ w.2
      ])
      (λ c h. chosen_then r r c (in_root l f r c h) (moved_other high low r not_high))

-- ---- classes

module _ (a l : Labelled) (f g : List ℕ) (high low : ℕ) (put : IsPut f g high low) (long : length g ≡ length f)
    (within : high < length f)
    (meet : ¬ AreApart (set_of_root l f low) (set_of_root l f high)) where
  others : (k : ℕ) (d : Class) → k < length (classes_by a l f) → (k ≡ low → ⊥) → (k ≡ high → ⊥) →
      get_or (classes_by a l g) k d ≡ get_or (classes_by a l f) k d
  others k d h not_low not_high =
      let count = count_classes a l f in
      class_at a l g k d (omega arith)
      ∙ (λ i. record {
        first = others_then a f g high low put k not_low not_high i;
        last = others_then l f g high low put k not_low not_high i;
      })
      ∙ sym (class_at a l f k d (omega arith))

  pub lead_by_put : LeadTo (classes_by a l f) (classes_by a l g)
  lead_by_put =
      let count = count_classes a l f in
      let after = count_classes a l g in
      let lower = put.lower in
      lead_put (classes_by a l f) (classes_by a l g) low high lower (omega arith) (omega arith) others
      (class_of_root a l f high) (class_of_root a l f low) (class_of_root a l g low) (class_of_root a l g high)
      (λ d. class_at a l f high d (omega arith)) (λ d. class_at a l f low d (omega arith))
      (λ d. class_at a l g low d (omega arith)) (λ d. class_at a l g high d (omega arith))
      (low_then a f g high low put) (low_then l f g high low put) (high_then a f g high low put)
      (high_then l f g high low put) meet

pub tied_same : (l : Labelled) (f : List ℕ) → IsTied l f f
tied_same l f = record { long = refl; coarser = λ k m e. e; leads = λ a. lead_same (classes_by a l f) }

-- ---- the labels of two cells that are near each other

module _ (l : Labelled) (f g : List ℕ) (i j : ℕ) (labelled : AreLabelled l f) (h : i < length l.tags.items)
    (k : j < length l.tags.items) (near : AreNearAt l i j) where
  abbrev tag : Tag
  tag = record { number = pos 0; label = 0 }

  stands : (n : ℕ) → n < length l.tags.items →
      contains (set_of_root l f (root f (get_or l.tags.items n tag).label)) (get_or (cells l.cells) n origin) ≡ true
  stands n inside =
      let count = labelled.tagged.count in
      of_root l f (root f (get_or l.tags.items n tag).label) n tag origin (omega arith) inside refl

  root_within : (n : ℕ) → n < length l.tags.items → root f (get_or l.tags.items n tag).label < length f
  root_within n inside =
      let within = labelled.within n tag inside in
      omega (arith, root-le f (get_or l.tags.items n tag).label)

  pub tied_by_join : (is_new : Bool) (one other : ℕ) → one ≡ (get_or l.tags.items i tag).label →
      other ≡ (get_or l.tags.items j tag).label → IsJoined f g one other is_new → IsTied l f g
  tied_by_join false one other is is_too joined = subst (IsTied l f) (sym (joined.same refl)) (tied_same l f)
  tied_by_join true one other is is_too joined =
      let meets : ¬ AreApart (set_of_root l f (root f one)) (set_of_root l f (root f other)) = λ far.
      far (get_or (cells l.cells) i origin) (get_or (cells l.cells) j origin)
      (subst (λ n. contains (set_of_root l f (root f n)) (get_or (cells l.cells) i origin) ≡ true) (sym is) (stands i h))
      (subst (λ n. contains (set_of_root l f (root f n)) (get_or (cells l.cells) j origin) ≡ true) (sym is_too) (stands j k))
      (near origin origin) in
      let first = root_within i h in
      let second = root_within j k in
      record {
        long = joined.long;
        coarser = joined.coarser;
        leads = λ a. elim (joined.put refl) [
          | inl w ↦ lead_by_put a l f g (root f one) (root f other) w joined.long (subst (λ n. root f n < length f) (sym is) first)
              (λ far. meets (AreApart-swap _ _ far))
          | inr w ↦ lead_by_put a l f g (root f other) (root f one) w joined.long
              (subst (λ n. root f n < length f) (sym is_too) second) meets
        ];
      }

pub tied_through : (l : Labelled) (f g h : List ℕ) → IsTied l f g → IsTied l g h → IsTied l f h
tied_through l f g h first second = record {
  long = second.long ∙ first.long;
  coarser = λ k m e. second.coarser k m (first.coarser k m e);
  leads = λ a. in_turn (classes_by a l f) (classes_by a l g) (classes_by a l h) (first.leads a) (second.leads a);
}
