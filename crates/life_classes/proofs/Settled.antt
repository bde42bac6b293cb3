-- Cells that were there before and are near each other have one root, since no two classes were near each other before.
use Rattle.std.proofs.Common.{◌≡◌, ℕ, ◌<◌, true, List, length, get_or, inl, inr, sym, refl, subst, ◌∙◌, arith}
use Rattle.life_model.specs.Cell.{Cell, origin}
use Rattle.life_model.specs.Generation.{cells, contains}
use Rattle.life_model.proofs.Near.{near_itself}
use Rattle.life_objects.proofs.Distances.{near_through}
use Rattle.life_classes.specs.declared.labels.Labelled.{Labelled}
use Rattle.life_classes.specs.declared.tags.Tag.{Tag}
use Rattle.life_classes.specs.Forest.{root}
use Rattle.life_classes.specs.Labels.{AreBornOrOld, AreHeirs, AreLabelled, IsHeir, classes_by}
use Rattle.life_classes.specs.Ties.{AreOneOrListed}
use Rattle.life_classes.specs.Tracking.{AreApartNow}
use Rattle.life_classes.proofs.Chosen.{of_root}
use Rattle.life_classes.proofs.Forests.{root-le}
use Rattle.life_classes.proofs.Inherited.{label_within, of_label, one_set, stands_in}
use Rattle.life_classes.proofs.Joined.{set_of_root}
use Rattle.life_classes.proofs.Level.{no_tag}

module _ (a old new : Labelled) (f : List ℕ) (before : AreLabelled old f) (after : AreLabelled new f)
    (apart : AreApartNow (classes_by a old f))
    (heirs : AreHeirs old f (cells new.cells) (length (cells new.cells)) new.tags.items) where
  -- a cell that was there before was one of the set of the root that its label has
  stayed : (c : Cell) (t : Tag) → contains old.cells c ≡ true → IsHeir old f c t →
      (root f t.label < length f) × (contains (set_of_root old f (root f t.label)) c ≡ true)
  stayed c t was heir =
      let at = stands_in old.cells c was in
      let listed = at.1 in
      let count = before.tagged.count in
      let inside : at.0 < length old.tags.items = omega arith in
      let s = root f (get_or old.tags.items at.0 no_tag).label in
      let below = before.within at.0 no_tag inside in
      let within : s < length f = omega (arith, root-le f (get_or old.tags.items at.0 no_tag).label) in
      let here : contains (set_of_root old f s) c ≡ true =
      subst (λ d. contains (set_of_root old f s) d ≡ true) at.2 (of_root old f s at.0 no_tag origin listed inside refl) in
      let r = root f heir.label in
      let from = heir.from in
      let same : s ≡ r =
      one_set a old new f before after apart heirs s r c (get_or (cells old.cells) from.by origin) within
      (label_within a old new f before after apart heirs c heir.label from) here
      (of_label a old new f before after apart heirs c heir.label from)
      (near_through c c (get_or (cells old.cells) from.by origin) (near_itself c) (from.near origin)) in
      let its : s ≡ root f t.label = same ∙ sym heir.same in (
        subst (λ q. q < length f) its within,
        subst (λ q. contains (set_of_root old f q) c ≡ true) its here,
      )

  pub settled : (places : List ℕ) → AreBornOrOld old (cells new.cells) (length (cells new.cells)) places →
      AreOneOrListed new f places
  settled places told i j h k near =
      let count = after.tagged.count in
      let first : i < length (cells new.cells) = omega arith in
      let second : j < length (cells new.cells) = omega arith in
      elim (told i origin first) [
        | inl born ↦ inl born
        | inr was ↦ elim (told j origin second) [
          | inl born ↦ inr (inl born)
          | inr was_too ↦ inr (inr (λ d e.
              let c = get_or (cells new.cells) i origin in
              let g = get_or (cells new.cells) j origin in
              let one = stayed c (get_or new.tags.items i d) was (heirs i d origin first) in
              let other = stayed g (get_or new.tags.items j e) was_too (heirs j e origin second) in
              one_set a old new f before after apart heirs (root f (get_or new.tags.items i d).label)
              (root f (get_or new.tags.items j e).label) c g one.0 other.0 one.1 other.1 (near origin origin)))
        ]
      ]
