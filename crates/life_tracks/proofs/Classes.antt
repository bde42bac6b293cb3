-- A class is unsplit, and what splits off a part of a set splits off the whole.
use Rattle.std.proofs.Common.{◌≢◌, ℕ, ◌≤◌, List, ◌∷◌, inl, inr, sym, ap, subst, ◌∙◌, arith}
use Rattle.std.specs.List.{Contains}
use Rattle.std.proofs.lemmas.List.Elements.{All-contains}
use Rattle.life_model.specs.Rule.{Rule}
use Rattle.life_model.specs.Generation.{Generation, contains, empty}
use Rattle.life_model.specs.Evolution.{generation}
use Rattle.life_model.proofs.Moves.{nothing_or_some}
use Rattle.life_objects.specs.Apart.{AreApart, AreApartFor}
use Rattle.life_objects.specs.Piece.{IsSplit}
use Rattle.life_objects.specs.Union.{IsSubsetOf, union, union_of}
use Rattle.life_objects.specs.Whole.{StaysWhole}
use Rattle.life_objects.proofs.Distances.{apart_from_union}
use Rattle.life_objects.proofs.Dividing.{AreApartFor-swap, apart_from_rest}
use Rattle.life_objects.proofs.Lists.{set_aside}
use Rattle.life_objects.proofs.OneList.{union_of-IsPermutation}
use Rattle.life_objects.proofs.Sides.{split_disjoint}
use Rattle.life_objects.proofs.Times.{before_from_while, generation-union}
use Rattle.life_objects.proofs.Unions.{in_first, in_second, union-assoc}
use Rattle.life_growth.specs.Unsplit.{AreClasses, IsUnsplit}

module _ (R : Rule) (b : ℕ) where
  -- G splits into P and X, and P into A and B
  module _ (G P X A B : Generation) (whole : IsSplit R b G P X) (part : IsSplit R b P A B) where
    first_within : (n : ℕ) → n ≤ b → IsSubsetOf (generation R A n) (generation R P n)
    first_within n h c one =
        ap (λ H. contains H c) (ap (λ Q. generation R Q n) (sym part.together)
        ∙ generation-union R n A B (before_from_while R b n A B part.apart (omega arith)))
        ∙ in_first (generation R A n) (generation R B n) c one

    second_within : (n : ℕ) → n ≤ b → IsSubsetOf (generation R B n) (generation R P n)
    second_within n h c one =
        ap (λ H. contains H c) (ap (λ Q. generation R Q n) (sym part.together)
        ∙ generation-union R n A B (before_from_while R b n A B part.apart (omega arith)))
        ∙ in_second (generation R A n) (generation R B n) c one

    first_apart : AreApartFor R b A X
    first_apart n h c d one other = whole.apart n h c d (first_within n h c one) other

    second_apart : AreApartFor R b B X
    second_apart n h c d one other = whole.apart n h c d (second_within n h c one) other

    pub split_further : IsSplit R b G A (union B X)
    split_further = record {
      together = sym (union-assoc A B X) ∙ ap (λ H. union H X) part.together ∙ whole.together;
      apart = λ n h.
          subst (AreApart (generation R A n))
          (sym (generation-union R n B X (before_from_while R b n B X second_apart (omega arith))))
          (apart_from_union (generation R A n) (generation R B n) (generation R X n) (part.apart n h) (first_apart n h));
    }

  module _ (G : Generation) (Ps : List Generation) (classes : AreClasses R b G Ps) where
    -- a class, and the union of the others
    pub class_splits : (P : Generation) → Contains Ps P → (X : Generation) × IsSplit R b G P X
    class_splits P one =
        let aside = set_aside (AreApartFor R b) (AreApartFor-swap R b) Ps P one classes.apart in (
          union_of aside.rest,
          record {
            together = sym (union_of-IsPermutation Ps (P ∷ aside.rest) aside.order) ∙ classes.together;
            apart = apart_from_rest R b P aside.rest aside.related aside.pairs;
          },
        )

    pub class_is_unsplit : (P : Generation) → Contains Ps P → IsUnsplit R b P
    class_is_unsplit P one = record {
      nonempty = All-contains (λ P. P ≢ empty) Ps P classes.nonempty one;
      whole = λ A B split some other.
          let X = class_splits P one in
          let further = split_further G P X.0 A B X.1 split in
          elim (All-contains (StaysWhole R b G) Ps P classes.whole one A (union B X.0) further) [
            | inl within ↦ elim (nothing_or_some B) [
              | inl none ↦ other none
              | inr cell ↦ split_disjoint R b P A B split cell.0
                  (within cell.0 (ap (λ H. contains H cell.0) (sym split.together) ∙ in_second A B cell.0 cell.1)) cell.1
            ]
            | inr within ↦ elim (nothing_or_some A) [
              | inl none ↦ some none
              | inr cell ↦ split_disjoint R b G A (union B X.0) further cell.0 cell.1
                  (within cell.0 (ap (λ H. contains H cell.0) (sym split.together) ∙ in_first A B cell.0 cell.1))
            ]
          ];
    }
