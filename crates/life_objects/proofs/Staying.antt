-- Which sets stay whole, and when a pattern is undivided.
use Rattle.std.proofs.Common.{◌≡◌, ℕ, ◌≤◌, true, List, [], ◌∷◌, ◌⊎◌, inl, inr, sym, ap, ◌∙◌, true≢false, arith}
use Rattle.std.specs.List.{All, AllPairs, Contains}
use Rattle.std.proofs.lemmas.Bool.{or_cases}
use Rattle.std.proofs.lemmas.List.Elements.{All-contains, All-weaker}
use Rattle.life_model.specs.Cell.{Cell, same_cell}
use Rattle.life_model.specs.Rule.{Rule}
use Rattle.life_model.specs.Generation.{Generation, contains, from_list}
use Rattle.life_model.specs.Evolution.{generation}
use Rattle.life_model.proofs.Cells.{same_cell-is}
use Rattle.life_model.proofs.Generations.{contains-from_list}
use Rattle.life_model.proofs.Moves.{nothing_or_some}
use Rattle.life_objects.specs.Apart.{AreApart, AreApartBefore, AreApartFor}
use Rattle.life_objects.specs.Piece.{LivesThrough, IsSplit, IsUndivided}
use Rattle.life_objects.specs.Union.{generations, union, union_of}
use Rattle.life_objects.specs.Union.{IsSubsetOf}
use Rattle.life_objects.specs.Whole.{StaysWhole}
use Rattle.life_objects.proofs.Distances.{AreApart-swap}
use Rattle.life_objects.proofs.Lists.{AllPairs-weaker, related_or_same}
use Rattle.life_objects.proofs.Many.{generation-union_of, list_a_while, pairs_then}
use Rattle.life_objects.proofs.Members.{found_in, in_list}
use Rattle.life_objects.proofs.Sides.{AreSides, sides, first_side, second_side}
use Rattle.life_objects.proofs.Times.{disjoint_a_while}
use Rattle.life_objects.proofs.Unions.{in_union, in_empty}

-- a list of one cell has that cell alone
one_cell : (c q : Cell) → contains (from_list (c ∷ [])) q ≡ true → q ≡ c
one_cell c q h =
    elim (or_cases (same_cell q c) _ (sym (contains-from_list (c ∷ []) q) ∙ h)) [
      | inl same ↦ (same_cell-is q c).0 same
      | inr other ↦ absurd (true≢false (sym other))
    ]

cell_within : (c : Cell) (A : Generation) → contains A c ≡ true → IsSubsetOf (from_list (c ∷ [])) A
cell_within c A h q k = ap (contains A) (one_cell c q k) ∙ h

union_within : (P Q A : Generation) → IsSubsetOf P A → IsSubsetOf Q A → IsSubsetOf (union P Q) A
union_within P Q A p q c h = elim (in_union P Q c h) [ inl x ↦ p c x | inr y ↦ q c y ]

-- one of the two dies out within b generations
abbrev pub NotBothLive : Rule → ℕ → Generation → Generation → Type 0
NotBothLive R b P Q = LivesThrough R b P → LivesThrough R b Q → ⊥

pub lives_by : (R : Rule) (b : ℕ) (P : Generation) (c : Cell) → contains (generation R P b) c ≡ true →
    LivesThrough R b P
lives_by R b P c h gone = in_empty c (ap (λ H. contains H c) (sym gone) ∙ h)

module _ (R : Rule) (b : ℕ) (G : Generation) where
  pub cell_stays : (c : Cell) → contains G c ≡ true → StaysWhole R b G (from_list (c ∷ []))
  cell_stays c h A B split =
      elim (in_union A B c (ap (λ H. contains H c) split.together ∙ h)) [
        | inl x ↦ inl (cell_within c A x)
        | inr y ↦ inr (cell_within c B y)
      ]

  module _ (Ps : List Generation) (whole : union_of Ps ≡ G) (stay : All (StaysWhole R b G) Ps) where
    module _ (S : Generation → Generation → Type 0) (pairs : AllPairs S Ps) (A B : Generation)
        (split : IsSplit R b G A B) where
      pub the_sides : AreSides S A B Ps
      the_sides = sides S A B Ps (All-weaker (StaysWhole R b G) (λ P. IsSubsetOf P A ⊎ IsSubsetOf P B)
          (λ P w. w A B split) Ps stay) pairs

    -- ---- sets that come near each other

    module _ (n : ℕ) (within : n ≤ b) (pairs : AllPairs (AreApartBefore R n) Ps) where
      module _ (A B : Generation) (split : IsSplit R b G A B) where
        abbrev s : AreSides (AreApartBefore R n) A B Ps
        s = the_sides (AreApartBefore R n) pairs A B split

        list_then : (Qs : List Generation) → AllPairs (AreApartBefore R n) Qs →
            generation R (union_of Qs) n ≡ union_of (generations R Qs n)
        list_then Qs far =
            generation-union_of R n Qs (λ m h.
            pairs_then R AreApart m Qs
            (AllPairs-weaker (AreApartBefore R n) (λ P Q. AreApart (generation R P m) (generation R Q m))
            (λ P Q a. a m h) Qs far))

        first_then : generation R A n ≡ union_of (generations R s.first n)
        first_then =
            ap (λ H. generation R H n) (first_side R b G A B split (AreApartBefore R n) Ps whole s)
            ∙ list_then s.first s.first_pairs

        second_then : generation R B n ≡ union_of (generations R s.second n)
        second_then =
            ap (λ H. generation R H n) (second_side R b G A B split (AreApartBefore R n) Ps whole s)
            ∙ list_then s.second s.second_pairs

        -- sets of different sides are apart still
        sides_apart : (P Q : Generation) → Contains s.first P → Contains s.second Q →
            AreApart (generation R P n) (generation R Q n)
        sides_apart P Q x y c d h k =
            split.apart n within c d
            (ap (λ H. contains H c) first_then ∙ in_list R n s.first P c x h)
            (ap (λ H. contains H d) second_then ∙ in_list R n s.second Q d y k)

        one_side : (P Q : Generation) → Contains Ps P → Contains Ps Q →
            ¬ AreApart (generation R P n) (generation R Q n) →
            IsSubsetOf (union P Q) A ⊎ IsSubsetOf (union P Q) B
        one_side P Q p q meet =
            elim (s.either P p) [
              | inl x ↦ elim (s.either Q q) [
                | inl y ↦ inl (union_within P Q A (All-contains (λ P. IsSubsetOf P A) s.first P s.first_within x)
                    (All-contains (λ P. IsSubsetOf P A) s.first Q s.first_within y))
                | inr y ↦ absurd (meet (sides_apart P Q x y))
              ]
              | inr x ↦ elim (s.either Q q) [
                | inl y ↦ absurd (meet (AreApart-swap (generation R Q n) (generation R P n) (sides_apart Q P y x)))
                | inr y ↦ inr (union_within P Q B (All-contains (λ P. IsSubsetOf P B) s.second P s.second_within x)
                    (All-contains (λ P. IsSubsetOf P B) s.second Q s.second_within y))
              ]
            ]

      pub meeting_stays : (P Q : Generation) → Contains Ps P → Contains Ps Q →
          ¬ AreApart (generation R P n) (generation R Q n) → StaysWhole R b G (union P Q)
      meeting_stays P Q p q meet A B split = one_side A B split P Q p q meet

    -- ---- sets that stay apart

    module _ (pairs : AllPairs (AreApartFor R b) Ps) (few : AllPairs (NotBothLive R b) Ps) where
      module _ (A B : Generation) (split : IsSplit R b G A B) where
        abbrev t : AreSides (AreApartFor R b) A B Ps
        t = the_sides (AreApartFor R b) pairs A B split

        first_end : generation R A b ≡ union_of (generations R t.first b)
        first_end =
            ap (λ H. generation R H b) (first_side R b G A B split (AreApartFor R b) Ps whole t)
            ∙ list_a_while R b b t.first t.first_pairs (omega arith)

        second_end : generation R B b ≡ union_of (generations R t.second b)
        second_end =
            ap (λ H. generation R H b) (second_side R b G A B split (AreApartFor R b) Ps whole t)
            ∙ list_a_while R b b t.second t.second_pairs (omega arith)

        not_both : (c d : Cell) → contains (generation R A b) c ≡ true → contains (generation R B b) d ≡ true → ⊥
        not_both c d h k =
            let P = found_in R b t.first c (ap (λ H. contains H c) (sym first_end) ∙ h) in
            let Q = found_in R b t.second d (ap (λ H. contains H d) (sym second_end) ∙ k) in
            elim (related_or_same (NotBothLive R b) (λ X Y n y x. n x y) Ps P.0 Q.0 (t.first_of P.0 P.1)
            (t.second_of Q.0 Q.1) few) [
              | inl one ↦ one (lives_by R b P.0 c P.2) (lives_by R b Q.0 d Q.2)
              | inr same ↦ disjoint_a_while R b b A B split.apart (omega arith) c h
                  (ap (λ H. contains H c) second_end
                  ∙ in_list R b t.second Q.0 c Q.1 (ap (λ H. contains (generation R H b) c) (sym same) ∙ P.2))
            ]

      pub undivided_by_few : IsUndivided R b G
      undivided_by_few A B split h k =
          elim (nothing_or_some (generation R A b)) [
            | inl gone ↦ h gone
            | inr x ↦ elim (nothing_or_some (generation R B b)) [
              | inl gone ↦ k gone
              | inr y ↦ not_both A B split x.0 y.0 x.1 y.1
            ]
          ]
