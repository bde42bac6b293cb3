-- Classes of one cell each.
use Rattle.std.proofs.Common.{◌≡◌, ℕ, ◌<◌, pos, List, [], ◌∷◌, length, get_or, map, sym, ap, subst, ◌∙◌, arith}
use Rattle.std.proofs.lemmas.List.{get_or-map, length-map, same_lists}
use Rattle.life_model.specs.Cell.{origin}
use Rattle.life_model.specs.Generation.{Generation, cells, contains, from_list}
use Rattle.life_model.proofs.Cells.{same_cell-is}
use Rattle.life_model.proofs.Generations.{contains-one}
use Rattle.life_objects.proofs.Sides.{within_each_other}
use Rattle.life_classes.specs.declared.labels.Labelled.{Labelled}
use Rattle.life_classes.specs.declared.tags.Tag.{Tag}
use Rattle.life_classes.specs.Forest.{root}
use Rattle.life_classes.specs.Labels.{IsTagged, classes_by}
use Rattle.life_classes.specs.Tags.{AreOwnLabels}
use Rattle.life_classes.specs.Tracking.{class_of_cell}
use Rattle.life_classes.proofs.Chosen.{class_at, count_classes, in_root, of_root}
use Rattle.life_classes.proofs.Joined.{set_of_root}

-- ---- labels each of which is a root of its own

module _ (f : List ℕ) (roots : (k : ℕ) → root f k ≡ k) where
  module _ (l : Labelled) (tagged : IsTagged l) (own : AreOwnLabels (length l.tags.items) l.tags.items) where
    abbrev tag : Tag
    tag = record { number = pos 0; label = 0 }

    root_is : (k : ℕ) → k < length l.tags.items → root f (get_or l.tags.items k tag).label ≡ k
    root_is k h = roots _ ∙ own k tag h

    pub one_alone : (r : ℕ) → r < length (cells l.cells) →
        set_of_root l f r ≡ from_list (get_or (cells l.cells) r origin ∷ [])
    one_alone r h =
        let count = tagged.count in
        let it = get_or (cells l.cells) r origin in
        within_each_other (set_of_root l f r) (from_list (it ∷ []))
        (λ c k.
        let w = in_root l f r c k in
        let same : w.place ≡ r = sym (root_is w.place w.tagged) ∙ w.label tag in
        contains-one it c
        ∙ (same_cell-is c it).1 (sym (w.is origin) ∙ ap (λ n. get_or (cells l.cells) n origin) same))
        (λ c k.
        let same : c ≡ it = (same_cell-is c it).0 (sym (contains-one it c) ∙ k) in
        ap (λ d. contains (set_of_root l f r) d) same
        ∙ of_root l f r r tag origin h (omega arith) (root_is r (omega arith)))

  pub all_alone : (a l : Labelled) (G : Generation) → IsTagged a → IsTagged l → AreOwnLabels (length a.tags.items) a.tags.items →
      AreOwnLabels (length l.tags.items) l.tags.items → a.cells ≡ G → l.cells ≡ G → length f ≡ length (cells G) →
      map class_of_cell (cells G) ≡ classes_by a l f
  all_alone a l G tagged tagged_too own own_too is is_too long =
      let count = count_classes a l f in
      let many = length-map (cells G) class_of_cell in
      same_lists _ _ (omega arith) (λ k d h.
      let inside : k < length (cells G) = omega arith in
      let first = one_alone a tagged own k (subst (λ H. k < length (cells H)) (sym is) inside)
      ∙ ap (λ H. from_list (get_or (cells H) k origin ∷ [])) is in
      let last = one_alone l tagged_too own_too k (subst (λ H. k < length (cells H)) (sym is_too) inside)
      ∙ ap (λ H. from_list (get_or (cells H) k origin ∷ [])) is_too in
      get_or-map class_of_cell (cells G) k origin d inside
      ∙ (λ i. record { first = sym first i; last = sym last i })
      ∙ sym (class_at a l f k d (omega arith)))
