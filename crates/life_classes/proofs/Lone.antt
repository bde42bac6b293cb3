-- Cells whose labels have one root, and what becomes of their class.
use Rattle.std.proofs.Common.{◌≡◌, ℕ, ◌<◌, pos, true, List, length, get_or, map, inl, inr, sym, ap, subst, ◌∙◌, arith}
use Rattle.std.specs.List.{All}
use Rattle.std.proofs.lemmas.Bool.{cases_eq}
use Rattle.std.proofs.lemmas.List.{get_or-map, length-map, same_lists}
use Rattle.life_model.specs.Cell.{origin}
use Rattle.life_model.specs.Rule.{Rule}
use Rattle.life_model.specs.Generation.{Generation, cells, contains, empty}
use Rattle.life_model.specs.Evolution.{generation}
use Rattle.life_model.proofs.Moves.{nothing_or_some}
use Rattle.life_model.proofs.Generations.{cells-contained}
use Rattle.life_objects.proofs.Sides.{within_each_other}
use Rattle.life_objects.proofs.Times.{generation-empty}
use Rattle.life_objects.proofs.Unions.{in_empty}
use Rattle.life_classes.specs.declared.labels.Labelled.{Labelled}
use Rattle.life_classes.specs.declared.tags.Tag.{Tag}
use Rattle.life_classes.specs.Forest.{root}
use Rattle.life_classes.specs.Labels.{AreLabelled, HasOneRoot, IsTagged, classes_by}
use Rattle.life_classes.specs.Tracking.{after}
use Rattle.life_classes.proofs.Chosen.{class_at, count_classes, in_root, of_root}
use Rattle.life_classes.proofs.Inherited.{stands_in}
use Rattle.life_classes.proofs.Joined.{set_of_root}

abbrev tag : Tag
tag = record { number = pos 0; label = 0 }

pub none_in_none : (G : Generation) → G ≡ empty → (k : ℕ) → k < length (cells G) → ⊥
none_in_none G gone k h =
    in_empty (get_or (cells G) k origin) (ap (λ H. contains H (get_or (cells G) k origin)) (sym gone) ∙ cells-contained G k origin h)

module _ (l : Labelled) (f : List ℕ) (tagged : IsTagged l) where
  pub none_of_none : l.cells ≡ empty → (r : ℕ) → set_of_root l f r ≡ empty
  none_of_none gone r =
      within_each_other (set_of_root l f r) empty
      (λ c h. let w = in_root l f r c h in absurd (none_in_none l.cells gone w.place w.inside)) (λ c h. absurd (in_empty c h))

  module _ (r : ℕ) (one : (k : ℕ) → k < length l.tags.items → root f (get_or l.tags.items k tag).label ≡ r) where
    pub all_of_root : set_of_root l f r ≡ l.cells
    all_of_root =
        within_each_other (set_of_root l f r) l.cells
        (λ c h.
        let w = in_root l f r c h in
        subst (λ d. contains l.cells d ≡ true) (w.is origin) (cells-contained l.cells w.place origin w.inside))
        (λ c h.
        let at = stands_in l.cells c h in
        let inside = at.1 in
        let count = tagged.count in
        subst (λ d. contains (set_of_root l f r) d ≡ true) at.2
        (of_root l f r at.0 tag origin inside (omega arith) (one at.0 (omega arith))))

    pub none_of_other : (q : ℕ) → (q ≡ r → ⊥) → set_of_root l f q ≡ empty
    none_of_other q other =
        within_each_other (set_of_root l f q) empty
        (λ c h. let w = in_root l f q c h in absurd (other (sym (w.label tag) ∙ one w.place w.tagged)))
        (λ c h. absurd (in_empty c h))

-- ---- the one class, some generations later

module _ (R : Rule) (m : ℕ) (old new : Labelled) (f : List ℕ) (before : AreLabelled old f)
    (one : HasOneRoot old.tags.items f) (tagged : IsTagged new) (cells_are : new.cells ≡ generation R old.cells m)
    (label : ℕ) (alike : All (λ t. t.label ≡ label) new.tags.items)
    (of_first : (d : Tag) → 0 < length old.tags.items → label ≡ (get_or old.tags.items 0 d).label) where
  gone_then : old.cells ≡ empty → new.cells ≡ empty
  gone_then gone = cells_are ∙ ap (λ H. generation R H m) gone ∙ generation-empty R m

  pub labelled_then : AreLabelled new f
  labelled_then = record {
    tagged = tagged;
    within = λ k d h.
        let count = tagged.count in
        elim (nothing_or_some old.cells) [
          | inl none ↦ absurd (none_in_none new.cells (gone_then none) k (omega arith))
          | inr some ↦
              let at = stands_in old.cells some.0 some.1 in
              let inside = at.1 in
              let count_too = before.tagged.count in
              let within = before.within 0 tag (omega arith) in
              let first = of_first tag (omega arith) in
              let same = alike k d h in
              omega arith
        ];
  }

  set_later : (r : ℕ) → set_of_root new f r ≡ generation R (set_of_root old f r) m
  set_later r = elim (nothing_or_some old.cells) [
    | inl none ↦
        none_of_none new f tagged (gone_then none) r ∙ sym (generation-empty R m)
        ∙ ap (λ H. generation R H m) (sym (none_of_none old f before.tagged none r))
    | inr some ↦
        let at = stands_in old.cells some.0 some.1 in
        let inside = at.1 in
        let count = before.tagged.count in
        let first : 0 < length old.tags.items = omega arith in
        let q = root f (get_or old.tags.items 0 tag).label in
        let all_old : (k : ℕ) → k < length old.tags.items → root f (get_or old.tags.items k tag).label ≡ q =
        λ k h. one k 0 tag tag h first in
        let all_new : (k : ℕ) → k < length new.tags.items → root f (get_or new.tags.items k tag).label ≡ q =
        λ k h. ap (root f) (alike k tag h ∙ of_first tag first) in
        elim (cases_eq r q) [
          | inl same ↦
              ap (set_of_root new f) same ∙ all_of_root new f tagged q all_new ∙ cells_are
              ∙ ap (λ H. generation R H m) (sym (all_of_root old f before.tagged q all_old) ∙ ap (set_of_root old f) (sym same))
          | inr other ↦
              none_of_other new f tagged q all_new r other ∙ sym (generation-empty R m)
              ∙ ap (λ H. generation R H m) (sym (none_of_other old f before.tagged q all_old r other))
        ]
  ]

  pub classes_later : (a : Labelled) → classes_by a new f ≡ map (after R m) (classes_by a old f)
  classes_later a =
      let count = count_classes a old f in
      let later = count_classes a new f in
      let long = length-map (classes_by a old f) (after R m) in
      same_lists _ _ (omega arith) (λ k d h.
      let inside : k < length f = omega arith in
      class_at a new f k d inside
      ∙ (λ i. record { first = set_of_root a f k; last = set_later k i })
      ∙ ap (after R m) (sym (class_at a old f k d inside))
      ∙ sym (get_or-map (after R m) (classes_by a old f) k d d (omega arith)))
