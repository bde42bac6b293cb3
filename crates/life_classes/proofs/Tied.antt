-- Cells that are near each other have one root if each is tied with those next to it in order.
use Rattle.std.proofs.Common.{◌≡◌, ℕ, suc, ◌+◌, ◌-◌, ◌^◌, ◌<◌, ℤ, pos, ◌+ℤ◌, ◌-ℤ◌, ◌≤ℤ◌, List, length, get_or, inl, inr, sym, subst, arith}
use Rattle.std.proofs.lemmas.Bool.{cases_lt}
use Rattle.std.proofs.lemmas.Int.{ints}
use Rattle.life_classes.specs.declared.labels.Labelled.{Labelled}
use Rattle.life_classes.specs.declared.tags.Tag.{Tag}
use Rattle.life_classes.specs.Forest.{root}
use Rattle.life_classes.specs.Labels.{AreLabelled, classes_by}
use Rattle.life_classes.specs.Ties.{AreTiedUpTo, IsTiedAfter, IsTiedAround, IsTiedAt}
use Rattle.life_classes.specs.Tracking.{AreApartNow}
use Rattle.life_classes.proofs.Across.{AreJoined, AreJoinedAcross, IsAcross, all_joined, apart_by_joined}
use Rattle.life_classes.proofs.Level.{AreJoinedInRows, around_one, no_tag, number_of_tag, root_of_tag}
use Rattle.life_classes.proofs.Numbers.{tags_rise}

-- ---- more is joined

pub around_still : (ts : List Tag) (f g : List ℕ) (n : ℕ) (number : ℤ) →
    ((k m : ℕ) → root f k ≡ root f m → root g k ≡ root g m) → IsTiedAround ts f n number → IsTiedAround ts g n number
around_still ts f g n number coarser w = record {
  place = w.place;
  within = w.within;
  less = w.less;
  least = w.least;
  next = λ t h l d e. coarser (get_or ts w.place d).label (get_or ts n e).label (w.next t h l d e);
  last = λ t h l d e. coarser (get_or ts (w.place - 1) d).label (get_or ts n e).label (w.last t h l d e);
}

pub around_as : (ts : List Tag) (f g : List ℕ) (n : ℕ) (number same : ℤ) →
    ((k m : ℕ) → root f k ≡ root f m → root g k ≡ root g m) → number ≡ same → IsTiedAround ts f n number →
    IsTiedAround ts g n same
around_as ts f g n number same coarser is w = subst (IsTiedAround ts g n) is (around_still ts f g n number coarser w)

pub at_still : (ts : List Tag) (f g : List ℕ) (n : ℕ) → ((k m : ℕ) → root f k ≡ root f m → root g k ≡ root g m) →
    IsTiedAt ts f n → IsTiedAt ts g n
at_still ts f g n coarser w = record {
  before = λ t h l d e. coarser (get_or ts (n - 1) d).label (get_or ts n e).label (w.before t h l d e);
  above = λ d. around_still ts f g n ((get_or ts n d).number -ℤ pos (2 ^ 31)) coarser (w.above d);
  further = λ d. around_still ts f g n ((get_or ts n d).number -ℤ pos (2 ^ 32)) coarser (w.further d);
}

pub after_still : (ts : List Tag) (f g : List ℕ) (n : ℕ) → ((k m : ℕ) → root f k ≡ root f m → root g k ≡ root g m) →
    IsTiedAfter ts f n → IsTiedAfter ts g n
after_still ts f g n coarser w = record {
  next = λ t h l d e. coarser (get_or ts n d).label (get_or ts (n + 1) e).label (w.next t h l d e);
  below = λ d. around_still ts f g n ((get_or ts n d).number +ℤ pos (2 ^ 31)) coarser (w.below d);
  beyond = λ d. around_still ts f g n ((get_or ts n d).number +ℤ pos (2 ^ 32)) coarser (w.beyond d);
}

pub one_more_tied : (ts : List Tag) (f g : List ℕ) (n : ℕ) → ((k m : ℕ) → root f k ≡ root f m → root g k ≡ root g m) →
    AreTiedUpTo ts f n → IsTiedAt ts g n → AreTiedUpTo ts g (n + 1)
one_more_tied ts f g n coarser all one k below = elim (cases_lt k n) [
  | inl before ↦ at_still ts f g k coarser (all k before)
  | inr here ↦ subst (IsTiedAt ts g) (let z : n ≡ k = omega arith in z) one
]

-- ---- one tag that is tied

module _ (ts : List Tag) (f : List ℕ) where
  pub before_it : (k : ℕ) → IsTiedAt ts f (suc k) → number_of_tag ts (suc k) ≤ℤ (number_of_tag ts k +ℤ pos 2) →
      root_of_tag ts f k ≡ root_of_tag ts f (suc k)
  before_it k w near =
      let back : suc k - 1 ≡ k = omega arith in
      let close : (number_of_tag ts (suc k) -ℤ pos 2) ≤ℤ number_of_tag ts k = omega (arith, ints) in
      subst (λ m. root_of_tag ts f m ≡ root_of_tag ts f (suc k)) back
      (w.before no_tag (omega arith) (subst (λ m. (number_of_tag ts (suc k) -ℤ pos 2) ≤ℤ number_of_tag ts m) (sym back) close)
      no_tag no_tag)

module _ (l : Labelled) (f : List ℕ) (labelled : AreLabelled l f) where
  pub across_by_lower : AreJoinedInRows l.tags.items f → (i j : ℕ) → i < length l.tags.items → IsTiedAt l.tags.items f j →
      IsAcross l i j → root_of_tag l.tags.items f i ≡ root_of_tag l.tags.items f j
  across_by_lower rows i j h w across =
      let from = across.from in
      let to = across.to in
      elim across.rows [
        | inl next ↦
            around_one l.tags.items f (tags_rise l labelled.tagged) rows i j _ (w.above no_tag) h (omega (arith, ints))
            (omega (arith, ints))
        | inr further ↦
            around_one l.tags.items f (tags_rise l labelled.tagged) rows i j _ (w.further no_tag) h (omega (arith, ints))
            (omega (arith, ints))
      ]

-- ---- all that are near each other

module _ (l : Labelled) (f : List ℕ) (labelled : AreLabelled l f)
    (all : AreTiedUpTo l.tags.items f (length l.tags.items)) where
  in_rows : AreJoinedInRows l.tags.items f
  in_rows k h near = before_it l.tags.items f k (all (suc k) h) near

  across : AreJoinedAcross l f
  across i j h k near is = across_by_lower l f labelled in_rows i j h (all j k) is

  pub joined_by_ties : AreJoined l f
  joined_by_ties = all_joined l f labelled in_rows across

  pub apart_by_ties : (a : Labelled) → AreApartNow (classes_by a l f)
  apart_by_ties = apart_by_joined l f labelled joined_by_ties
