-- If a pattern is made up of sets that no split tears, each part of its ash has one of them that lives on.
use Rattle.std.proofs.Common.{◌≡◌, ℕ, ◌+◌, ◌-◌, ◌≤◌, true, List, inl, inr, sym, ap, subst, ◌∙◌, arith}
use Rattle.std.specs.List.{All, AllPairs, Contains}
use Rattle.std.proofs.lemmas.List.Elements.{All-contains}
use Rattle.life_model.specs.Cell.{Cell}
use Rattle.life_model.specs.Rule.{Rule}
use Rattle.life_model.specs.Generation.{Generation, contains}
use Rattle.life_model.specs.Evolution.{generation}
use Rattle.life_model.proofs.Moves.{nothing_or_some}
use Rattle.life_model.proofs.Recurrences.{generation-add, generation-zero}
use Rattle.life_objects.specs.Apart.{AreApartFor}
use Rattle.life_objects.specs.Ash.{IsObject, IsAsh}
use Rattle.life_objects.specs.Whole.{IsCore}
use Rattle.life_objects.specs.Piece.{LivesThrough, IsSplit, IsUndivided}
use Rattle.life_objects.specs.Union.{generations, union_of}
use Rattle.life_objects.specs.Union.{IsSubsetOf}
use Rattle.life_objects.specs.Whole.{StaysWhole}
use Rattle.life_objects.proofs.Ashes.{object_lives, object_of}
use Rattle.life_objects.proofs.Dividing.{few_by_undivided, AreApartFor-swap}
use Rattle.life_objects.proofs.Lists.{related_or_same}
use Rattle.life_objects.proofs.Many.{list_a_while, list_ever}
use Rattle.life_objects.proofs.Members.{found_in, in_list}
use Rattle.life_objects.proofs.OneList.{rest_of, apart_from_rest, with_rest}
use Rattle.life_objects.proofs.Sides.{AreSides, first_side, within_each_other}
use Rattle.life_objects.proofs.Staying.{NotBothLive, the_sides, lives_by}
use Rattle.life_objects.proofs.Times.{disjoint_a_while}

module _ (R : Rule) (b : ℕ) where
  -- of an undivided union that lives through, one set lives on
  module _ (P : Generation) (Ls : List Generation) (whole : union_of Ls ≡ P) (pairs : AllPairs (AreApartFor R b) Ls)
      (undivided : IsUndivided R b P) (L : Generation) (one : Contains Ls L) (c : Cell)
      (lives : contains (generation R L b) c ≡ true) where
    end : generation R P b ≡ union_of (generations R Ls b)
    end = ap (λ H. generation R H b) (sym whole) ∙ list_a_while R b b Ls pairs (omega arith)

    in_core : (q : Cell) → contains (generation R P b) q ≡ true → contains (generation R L b) q ≡ true
    in_core q h =
        let X = found_in R b Ls q (ap (λ H. contains H q) (sym end) ∙ h) in
        elim (related_or_same (NotBothLive R b) (λ A B n y x. n x y) Ls X.0 L X.1 one
        (few_by_undivided R b P Ls whole pairs undivided)) [
          | inl no_two ↦ absurd (no_two (lives_by R b X.0 q X.2) (lives_by R b L c lives))
          | inr same ↦ ap (λ H. contains (generation R H b) q) (sym same) ∙ X.2
        ]

    core_end : generation R P b ≡ generation R L b
    core_end =
        within_each_other (generation R P b) (generation R L b) in_core
        (λ q h. ap (λ H. contains H q) end ∙ in_list R b Ls L q one h)

    core_later : (n : ℕ) → b ≤ n → generation R P n ≡ generation R L n
    core_later n h =
        let rest : ℕ = n - b in
        let e : n ≡ b + rest = omega arith in
        ap (generation R P) e ∙ sym (generation-add R P b rest) ∙ ap (λ H. generation R H rest) core_end
        ∙ generation-add R L b rest ∙ ap (generation R L) (sym e)

  module _ (G : Generation) (parts Ls : List Generation) (ash : IsAsh R b G parts) (whole : union_of Ls ≡ G)
      (stay : All (StaysWhole R b G) Ls) (pairs : AllPairs (AreApartFor R b) Ls) where
    module _ (P : Generation) (one : Contains parts P) where
      object : IsObject R b P
      object = object_of R b G parts ash P one

      split : IsSplit R b G P (rest_of R b G parts ash P one)
      split = record {
        together = with_rest R b G parts ash P one;
        apart = λ n h. apart_from_rest R b G parts ash P one n;
      }

      abbrev s : AreSides (AreApartFor R b) P (rest_of R b G parts ash P one) Ls
      s = the_sides R b G Ls whole stay (AreApartFor R b) pairs P (rest_of R b G parts ash P one) split

      made_of : P ≡ union_of s.first
      made_of = first_side R b G P (rest_of R b G parts ash P one) split (AreApartFor R b) Ls whole s

      undivided : IsUndivided R b P
      undivided = subst (IsUndivided R b) (generation-zero R P) (object.whole 0)

      pub core_of : (L : Generation) × Contains Ls L × IsCore R b L P
      core_of =
          elim (nothing_or_some (generation R P b)) [
            | inl gone ↦ absurd (object_lives R b P object b gone)
            | inr x ↦
                let L = found_in R b s.first x.0
                (ap (λ H. contains H x.0) (sym
                (ap (λ H. generation R H b) made_of
                ∙ list_a_while R b b s.first s.first_pairs (omega arith))) ∙ x.1) in (
                  L.0,
                  s.first_of L.0 L.1,
                  record {
                    within = All-contains (λ A. IsSubsetOf A P) s.first L.0 s.first_within L.1;
                    lives = lives_by R b L.0 x.0 L.2;
                    later = core_later P s.first (sym made_of) s.first_pairs undivided L.0 L.1 x.0 L.2;
                  },
                )
          ]

    -- each set that lives on is what lives on of some part
    pub part_around : (L : Generation) → Contains Ls L → LivesThrough R b L →
        (P : Generation) × Contains parts P × IsCore R b L P
    part_around L one lives =
        elim (nothing_or_some (generation R L b)) [
          | inl gone ↦ absurd (lives gone)
          | inr x ↦
              let in_ash : contains (union_of (generations R parts b)) x.0 ≡ true =
              ap (λ H. contains H x.0)
              (sym (list_ever R b parts ash.apart) ∙ ap (λ H. generation R H b) (ash.together ∙ sym whole)
              ∙ list_a_while R b b Ls pairs (omega arith))
              ∙ in_list R b Ls L x.0 one x.1 in
              let P = found_in R b parts x.0 in_ash in
              let core = core_of P.0 P.1 in
              elim (related_or_same (AreApartFor R b) (AreApartFor-swap R b) Ls core.0 L core.1 one pairs) [
                | inl far ↦ absurd (disjoint_a_while R b b core.0 L far (omega arith) x.0
                    (ap (λ H. contains H x.0) (sym (core.2.later b (omega arith))) ∙ P.2) x.1)
                | inr same ↦ (P.0, P.1, subst (λ H. IsCore R b H P.0) same core.2)
              ]
        ]
