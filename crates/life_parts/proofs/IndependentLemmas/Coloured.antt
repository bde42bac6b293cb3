-- Cells are put into groups by their colours.
use Rattle.std.proofs.Common.{◌≡◌, ◌≢◌, ℕ, true, T, List, [], ◌∷◌, get_or, inl, inr, sym, ap, ◌∙◌}
use Rattle.std.specs.List.{All, AllPairs, Contains}
use Rattle.std.proofs.lemmas.Bool.{cases_Bool, cases_eq}
use Rattle.std.proofs.lemmas.List.Elements.{All-cons, All-contains, All-head, All-nil, All-tail, Contains-get_or}
use Rattle.std.proofs.lemmas.List.Kept.{AllPairs-cons}
use Rattle.life_model.specs.Cell.{Cell}
use Rattle.life_model.specs.Generation.{Generation, below_all, contains, empty, from_list, insert, is_rising}
use Rattle.life_model.proofs.Generations.{contains-empty}
use Rattle.life_model.proofs.Tests.{second_holds}
use Rattle.life_objects.specs.Union.{union_of}
use Rattle.life_objects.proofs.Lists.{AllPairs-head, AllPairs-nil, AllPairs-tail, related_or_same}
use Rattle.life_parts.proofs.PartsLemmas.Lists.{some_cell}
use Rattle.life_parts.proofs.IndependentLemmas.Added.{IsAdded, IsGrouping, alone, here, later, none, more, came_in, groups_make_up, insert-is}
use Rattle.life_objects.proofs.Found.{owner}

-- cells of the set have one colour
abbrev pub IsPlain : (Cell → ℕ) → Generation → Type 0
IsPlain colour A = (x y : Cell) → contains A x ≡ true → contains A y ≡ true → colour x ≡ colour y

-- no colour is in both
abbrev pub AreUnlike : (Cell → ℕ) → Generation → Generation → Type 0
AreUnlike colour A B = (x y : Cell) → contains A x ≡ true → contains B y ≡ true → colour x ≡ colour y → ⊥

-- The groups are those of the colours.
pub record AreColoured (colour : Cell → ℕ) (Hs : List Generation) : Type 0 where
  pub plain : All (IsPlain colour) Hs
  pub unlike : AllPairs (AreUnlike colour) Hs

module _ (colour : Cell → ℕ) where
  abbrev Plain : Generation → Type 0
  Plain = IsPlain colour

  abbrev Unlike : Generation → Generation → Type 0
  Unlike = AreUnlike colour

  plain_of : (Hs : List Generation) → AreColoured colour Hs → (A : Generation) → Contains Hs A → Plain A
  plain_of Hs are A one = All-contains Plain Hs A are.plain one

  -- cells of one colour are of one group
  pub one_group : (Hs : List Generation) → AreColoured colour Hs → (A B : Generation) → Contains Hs A → Contains Hs B →
      (x y : Cell) → contains A x ≡ true → contains B y ≡ true → colour x ≡ colour y → A ≡ B
  one_group Hs are A B one two x y h k e =
      elim (related_or_same Unlike (λ X Z far a b l m same. far b a m l (sym same)) Hs A B one two are.unlike) [
        | inl far ↦ absurd (far x y h k e)
        | inr same ↦ same
      ]

  pub one_colour : (Hs : List Generation) → AreColoured colour Hs → (A : Generation) → Contains Hs A → (x y : Cell) →
      contains A x ≡ true → contains A y ≡ true → colour x ≡ colour y
  one_colour Hs are A one = plain_of Hs are A one

  module _ (c : Cell) where
    in_new : (x : Cell) → contains (from_list (c ∷ [])) x ≡ true → colour x ≡ colour c
    in_new x h = ap colour (insert-is empty c x h (contains-empty x))

    in_grown : (Q : Generation) → Plain Q → (q : Cell) → contains Q q ≡ true → colour q ≡ colour c → (x : Cell) →
        contains (insert Q c) x ≡ true → colour x ≡ colour q
    in_grown Q all q in_Q same x h =
        elim (cases_Bool (contains Q x)) [
          | inl old ↦ all x q old in_Q
          | inr new ↦ ap colour (insert-is Q c x h new) ∙ sym same
        ]

    add_by_colour : (Qs : List Generation) → All (λ Q. Q ≢ empty) Qs → AreColoured colour Qs →
        (Hs : List Generation) × IsAdded c Qs Hs × AreColoured colour Hs
    add_by_colour [] some are = (
      from_list (c ∷ []) ∷ [],
      alone,
      record {
        plain = All-cons Plain (from_list (c ∷ [])) [] (λ x y h k. in_new x h ∙ sym (in_new y k)) (All-nil Plain);
        unlike = AllPairs-cons Unlike (from_list (c ∷ [])) [] (All-nil (Unlike (from_list (c ∷ [])))) (AllPairs-nil Unlike);
      },
    )
    add_by_colour (Q ∷ Qs) some are =
        let a = some_cell Q (All-head (λ H. H ≢ empty) Q Qs some) in
        let q = a.0 in
        let all = All-head Plain Q Qs are.plain in
        let others = All-tail Plain Q Qs are.plain in
        let far = AllPairs-head Unlike Q Qs are.unlike in
        let rest = AllPairs-tail Unlike Q Qs are.unlike in
        elim (cases_eq (colour q) (colour c)) [
          | inl same ↦ (
            insert Q c ∷ Qs,
            here Q Qs,
            record {
              plain = All-cons Plain (insert Q c) Qs
                  (λ x y h k. in_grown Q all q a.1 same x h ∙ sym (in_grown Q all q a.1 same y k)) others;
              unlike = AllPairs-cons Unlike (insert Q c) Qs
                  (λ k d l x y h m e. far k d l q y a.1 m (sym (in_grown Q all q a.1 same x h) ∙ e)) rest;
            },
          )
          | inr other ↦
              let new = add_by_colour Qs (All-tail (λ H. H ≢ empty) Q Qs some) (record { plain = others; unlike = rest }) in (
                Q ∷ new.0,
                later Q Qs new.0 new.1,
                record {
                  plain = All-cons Plain Q new.0 all new.2.plain;
                  unlike = AllPairs-cons Unlike Q new.0 (λ k d l x y h m e.
                      elim (cases_Bool (contains (union_of Qs) y)) [
                        | inl old ↦
                            let B = owner Qs y old in
                            All-contains (Unlike Q) Qs B.0 far B.1 x y h B.2 e
                        | inr fresh ↦
                            other (all q x a.1 h ∙ e
                            ∙ ap colour (came_in c Qs new.0 new.1 (get_or new.0 k d) (Contains-get_or new.0 k d l) y m fresh))
                      ]) new.2.unlike;
                },
              )
        ]

  pub group_by_colour : (cs : List Cell) → T (is_rising cs) →
      (Hs : List Generation) × IsGrouping cs Hs × AreColoured colour Hs
  group_by_colour [] rising = ([], none, record { plain = All-nil Plain; unlike = AllPairs-nil Unlike })
  group_by_colour (c ∷ cs) rising =
      let rises = second_holds (below_all c cs) (is_rising cs) rising in
      let rest = group_by_colour cs rises in
      let new = add_by_colour c rest.0 (groups_make_up cs rest.0 rest.1 rises).some rest.2 in
      (new.0, more c cs rest.0 new.0 rest.1 new.1, new.2)
