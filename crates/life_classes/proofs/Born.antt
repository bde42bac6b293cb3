-- Cells that are near each other have one root if those in listed places are tied with all that are near them.
use Rattle.std.proofs.Common.{◌≡◌, ℕ, suc, ◌+◌, ◌<◌, pos, ◌+ℤ◌, ◌-ℤ◌, ◌≤ℤ◌, List, length, get_or, inl, inr, refl, sym, subst, arith}
use Rattle.std.specs.List.{Contains}
use Rattle.std.proofs.lemmas.Bool.{cases_lt}
use Rattle.std.proofs.lemmas.Int.{ints}
use Rattle.std.proofs.lemmas.List.{get_or_default}
use Rattle.life_model.specs.Cell.{origin}
use Rattle.life_model.specs.Generation.{cells}
use Rattle.life_objects.specs.Apart.{AreNear}
use Rattle.life_classes.specs.declared.labels.Labelled.{Labelled}
use Rattle.life_classes.specs.declared.tags.Tag.{Tag}
use Rattle.life_classes.specs.Forest.{root}
use Rattle.life_classes.specs.Labels.{AreLabelled, AreNearAt, IsTagged, classes_by}
use Rattle.life_classes.specs.Ties.{AreNearOne, AreOneOrListed, IsTiedAfter, IsTiedAt}
use Rattle.life_classes.specs.Tracking.{AreApartNow}
use Rattle.life_classes.proofs.Across.{AreJoined, AreJoinedAcross, IsAcross, all_joined, apart_by_joined, cell_at}
use Rattle.life_classes.proofs.Level.{AreJoinedInRows, around_one, no_tag, number_of_tag, root_of_tag}
use Rattle.life_classes.proofs.Numbers.{near_at, tags_rise}
use Rattle.life_classes.proofs.Tied.{across_by_lower, after_still, at_still, before_it}

-- the label of the tag in this place is joined with all that are near it
pub record IsTiedAbout (ts : List Tag) (f : List ℕ) (n : ℕ) : Type 0 where
  pub at : IsTiedAt ts f n
  pub after : IsTiedAfter ts f n

-- so it is for the first n of the listed places
abbrev pub AreTiedAbout : List Tag → List ℕ → List ℕ → ℕ → Type 0
AreTiedAbout ts f places n = (k : ℕ) (d : ℕ) → k < n → IsTiedAbout ts f (get_or places k d)

pub about_still : (ts : List Tag) (f g : List ℕ) (n : ℕ) → ((k m : ℕ) → root f k ≡ root f m → root g k ≡ root g m) →
    IsTiedAbout ts f n → IsTiedAbout ts g n
about_still ts f g n coarser w = record { at = at_still ts f g n coarser w.at; after = after_still ts f g n coarser w.after }

pub one_more_about : (ts : List Tag) (f g places : List ℕ) (n d : ℕ) →
    ((k m : ℕ) → root f k ≡ root f m → root g k ≡ root g m) → n < length places → AreTiedAbout ts f places n →
    IsTiedAbout ts g (get_or places n d) → AreTiedAbout ts g places (n + 1)
one_more_about ts f g places n d coarser h all one k e below = elim (cases_lt k n) [
  | inl before ↦ about_still ts f g (get_or places k e) coarser (all k e before)
  | inr here ↦
      subst (λ m. IsTiedAbout ts g (get_or places m e)) (let z : n ≡ k = omega arith in z)
      (subst (IsTiedAbout ts g) (get_or_default places n d e h) one)
]

pub others_still : (l : Labelled) (f g places : List ℕ) → ((k m : ℕ) → root f k ≡ root f m → root g k ≡ root g m) →
    AreOneOrListed l f places → AreOneOrListed l g places
others_still l f g places coarser others i j h k near =
    let ts = l.tags.items in
    elim (others i j h k near) [
      | inl first ↦ inl first
      | inr rest ↦ elim rest [
        | inl second ↦ inr (inl second)
        | inr one ↦ inr (inr (λ d e. coarser (get_or ts i d).label (get_or ts j e).label (one d e)))
      ]
    ]

pub near_anywhere : (l : Labelled) (i j : ℕ) → IsTagged l → i < length l.tags.items → j < length l.tags.items →
    AreNear (cell_at l i) (cell_at l j) → AreNearAt l i j
near_anywhere l i j tagged h k near d e =
    let count = tagged.count in
    let first : i < length (cells l.cells) = omega arith in
    let second : j < length (cells l.cells) = omega arith in
    subst (λ c. AreNear c (get_or (cells l.cells) j e)) (get_or_default (cells l.cells) i origin d first)
    (subst (AreNear (cell_at l i)) (get_or_default (cells l.cells) j origin e second) near)

-- ---- those that are near one that is tied

module _ (l : Labelled) (f : List ℕ) (labelled : AreLabelled l f) where
  pub joined_anywhere : AreJoined l f → AreNearOne l f
  joined_anywhere joined i j h k near d e =
      let ts = l.tags.items in
      subst (λ (t : Tag). root f t.label ≡ root f (get_or ts j e).label) (get_or_default ts i no_tag d h)
      (subst (λ (t : Tag). root_of_tag ts f i ≡ root f t.label) (get_or_default ts j no_tag e k)
      (joined i j h k (near origin origin)))

  after_it : (k : ℕ) → IsTiedAfter l.tags.items f k → suc k < length l.tags.items →
      number_of_tag l.tags.items (suc k) ≤ℤ (number_of_tag l.tags.items k +ℤ pos 2) →
      root_of_tag l.tags.items f k ≡ root_of_tag l.tags.items f (suc k)
  after_it k w h near =
      let ts = l.tags.items in
      let on : k + 1 ≡ suc k = omega arith in
      subst (λ m. root_of_tag ts f k ≡ root_of_tag ts f m) on
      (w.next no_tag (omega arith) (subst (λ m. (number_of_tag ts m -ℤ pos 2) ≤ℤ number_of_tag ts k) (sym on) (omega (arith, ints)))
      no_tag no_tag)

  across_by_upper : AreJoinedInRows l.tags.items f → (i j : ℕ) → j < length l.tags.items → IsTiedAfter l.tags.items f i →
      IsAcross l i j → root_of_tag l.tags.items f i ≡ root_of_tag l.tags.items f j
  across_by_upper rows i j k w across =
      let from = across.from in
      let to = across.to in
      elim across.rows [
        | inl next ↦
            sym (around_one l.tags.items f (tags_rise l labelled.tagged) rows j i _ (w.below no_tag) k (omega (arith, ints))
            (omega (arith, ints)))
        | inr further ↦
            sym (around_one l.tags.items f (tags_rise l labelled.tagged) rows j i _ (w.beyond no_tag) k (omega (arith, ints))
            (omega (arith, ints)))
      ]

  module _ (places : List ℕ) (others : AreOneOrListed l f places)
      (tied : AreTiedAbout l.tags.items f places (length places)) where
    listed_tied : (n : ℕ) → Contains places n → IsTiedAbout l.tags.items f n
    listed_tied n w = subst (IsTiedAbout l.tags.items f) w.2 (tied w.0 n w.1)

    in_rows : AreJoinedInRows l.tags.items f
    in_rows k h near =
        let here : k < length l.tags.items = omega arith in
        let up = tags_rise l labelled.tagged k (suc k) no_tag (omega arith) h in
        elim (others k (suc k) here h
        (near_at l labelled.tagged k (suc k) (pos 0) no_tag here h (inl refl) (omega (arith, ints)) (omega (arith, ints)))) [
          | inl first ↦ after_it k (listed_tied k first).after h near
          | inr rest ↦ elim rest [
            | inl second ↦ before_it l.tags.items f k (listed_tied (suc k) second).at near
            | inr one ↦ one no_tag no_tag
          ]
        ]

    across : AreJoinedAcross l f
    across i j h k near is = elim (others i j h k (near_anywhere l i j labelled.tagged h k near)) [
      | inl first ↦ across_by_upper in_rows i j k (listed_tied i first).after is
      | inr rest ↦ elim rest [
        | inl second ↦ across_by_lower l f labelled in_rows i j h (listed_tied j second).at is
        | inr one ↦ one no_tag no_tag
      ]
    ]

    pub near_by_listed : AreNearOne l f
    near_by_listed = joined_anywhere (all_joined l f labelled in_rows across)

  pub apart_by_near : AreNearOne l f → (a : Labelled) → AreApartNow (classes_by a l f)
  apart_by_near all =
      apart_by_joined l f labelled (λ i j h k near. all i j h k (near_anywhere l i j labelled.tagged h k near) no_tag no_tag)
