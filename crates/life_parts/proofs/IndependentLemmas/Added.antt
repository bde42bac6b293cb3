-- What groups make up: a cell is put into one of them, or into one of its own.
use Rattle.std.proofs.Common.{◌≡◌, ◌≢◌, ◌<◌, Bool, true, false, ◌||◌, T, List, [], ◌∷◌, get_or, map, inl, inr, sym, refl, ap, subst, ◌∙◌, arith}
use Rattle.std.specs.List.{All, AllPairs, Contains}
use Rattle.std.proofs.Math.Bool.{or_assoc, or_comm}
use Rattle.std.proofs.lemmas.Bool.{both_ways, cases_Bool, false_from_ne_true, or_cases, or_left}
use Rattle.std.proofs.lemmas.List.Elements.{All-cons, All-contains, All-head, All-nil, All-tail, Contains-get_or}
use Rattle.std.proofs.lemmas.List.Kept.{AllPairs-cons}
use Rattle.life_model.specs.Cell.{Cell, same_cell}
use Rattle.life_model.specs.Generation.{Generation, below_all, contains, empty, from_list, insert, is_rising}
use Rattle.life_model.proofs.Cells.{same_cell-is}
use Rattle.life_model.proofs.Generations.{contains-from_list, contains-insert, none_below, same_members}
use Rattle.life_model.proofs.Moves.{same_cell_itself}
use Rattle.life_model.proofs.Tests.{first_holds, second_holds}
use Rattle.life_objects.specs.Apart.{AreDisjoint}
use Rattle.life_objects.specs.Union.{union, union_of}
use Rattle.life_objects.proofs.Lists.{AllPairs-head, AllPairs-nil, AllPairs-tail, Contains-head, Contains-later, head_or_later}
use Rattle.life_objects.proofs.Unions.{contains-union, in_first, in_second, union-empty}
use Rattle.life_parts.proofs.PartsLemmas.Lists.{is_some}
use Rattle.life_parts.specs.Independent.Groupings.{groupings_of, ways_to_add}
use Rattle.life_objects.proofs.Found.{Contains-flat_map, of_flat_map, of_map, owned, owner}
use Rattle.life_objects.proofs.DecidedLemmas.Kept.{Contains-map}

-- The second groups are the first with c put in.
pub data IsAdded (c : Cell) : List Generation → List Generation → Type 0 where
  alone : IsAdded c [] (from_list (c ∷ []) ∷ [])
  here : (Q : Generation) (Qs : List Generation) → IsAdded c (Q ∷ Qs) (insert Q c ∷ Qs)
  later : (Q : Generation) (Qs Hs : List Generation) → IsAdded c Qs Hs → IsAdded c (Q ∷ Qs) (Q ∷ Hs)

-- The groups are the cells, put in one after the other from the last to the first.
pub data IsGrouping : List Cell → List Generation → Type 0 where
  none : IsGrouping [] []
  more : (c : Cell) (cs : List Cell) (Qs Hs : List Generation) → IsGrouping cs Qs → IsAdded c Qs Hs →
      IsGrouping (c ∷ cs) Hs

module _ (c : Cell) where
  added_way : (Qs Hs : List Generation) → Contains (ways_to_add c Qs) Hs → IsAdded c Qs Hs
  added_way [] Hs one =
      elim (head_or_later (from_list (c ∷ []) ∷ []) Hs [] one.0 one.1 one.2) [
        | inl e ↦ subst (IsAdded c []) e alone
        | inr other ↦ let none : other.0 < 0 = other.1 in absurd (omega arith)
      ]
  added_way (Q ∷ Qs) Hs one =
      elim (head_or_later (insert Q c ∷ Qs) Hs (map (λ groups. Q ∷ groups) (ways_to_add c Qs)) one.0 one.1 one.2) [
        | inl e ↦ subst (IsAdded c (Q ∷ Qs)) e (here Q Qs)
        | inr rest ↦
            let q = of_map (λ groups. Q ∷ groups) (ways_to_add c Qs) Hs rest in
            subst (IsAdded c (Q ∷ Qs)) q.2 (later Q Qs q.0 (added_way Qs q.0 q.1))
      ]

  way_added : (Qs Hs : List Generation) → IsAdded c Qs Hs → Contains (ways_to_add c Qs) Hs
  way_added _ _ alone = Contains-head (from_list (c ∷ []) ∷ []) []
  way_added _ _ (here Q Qs) = Contains-head (insert Q c ∷ Qs) (map (λ groups. Q ∷ groups) (ways_to_add c Qs))
  way_added _ _ (later Q Qs Hs a) =
      Contains-later (insert Q c ∷ Qs) (Q ∷ Hs) (map (λ groups. Q ∷ groups) (ways_to_add c Qs))
      (Contains-map (λ groups. Q ∷ groups) (ways_to_add c Qs) Hs (way_added Qs Hs a))

pub grouping_listed : (cs : List Cell) (Hs : List Generation) → Contains (groupings_of cs) Hs → IsGrouping cs Hs
grouping_listed [] Hs one =
    elim (head_or_later [] Hs [] one.0 one.1 one.2) [
      | inl e ↦ subst (IsGrouping []) e none
      | inr other ↦ let none : other.0 < 0 = other.1 in absurd (omega arith)
    ]
grouping_listed (c ∷ cs) Hs one =
    let q = of_flat_map (ways_to_add c) (groupings_of cs) Hs one in
    more c cs q.0 Hs (grouping_listed cs q.0 q.1) (added_way c q.0 Hs q.2)

pub listed_grouping : (cs : List Cell) (Hs : List Generation) → IsGrouping cs Hs → Contains (groupings_of cs) Hs
listed_grouping _ _ none = Contains-head [] []
listed_grouping _ _ (more c cs Qs Hs g a) =
    Contains-flat_map (ways_to_add c) (groupings_of cs) Qs Hs (listed_grouping cs Qs g) (way_added c Qs Hs a)

-- ---- what they make up

pub insert-is : (Q : Generation) (c y : Cell) → contains (insert Q c) y ≡ true → (contains Q y ≡ false → y ≡ c)
insert-is Q c y h =
    λ no. elim (or_cases (same_cell y c) (contains Q y) (sym (contains-insert Q c y) ∙ h)) [
      | inl same ↦ (same_cell-is y c).0 same
      | inr old ↦ absurd (both_ways (contains Q y) no old)
    ]

union-insert : (Q S : Generation) (c : Cell) → union (insert Q c) S ≡ insert (union Q S) c
union-insert Q S c = same_members _ _ (λ y.
    contains-union (insert Q c) S y ∙ ap (λ b. b || contains S y) (contains-insert Q c y)
    ∙ or_assoc (same_cell y c) (contains Q y) (contains S y)
    ∙ sym (contains-insert (union Q S) c y ∙ ap (λ b. same_cell y c || b) (contains-union Q S y)))

or-turned : (a b c : Bool) → (a || (b || c)) ≡ (b || (a || c))
or-turned a b c = sym (or_assoc a b c) ∙ ap (λ x. x || c) (or_comm a b) ∙ or_assoc b a c

insert-union : (Q S : Generation) (c : Cell) → union Q (insert S c) ≡ insert (union Q S) c
insert-union Q S c = same_members _ _ (λ y.
    contains-union Q (insert S c) y ∙ ap (λ b. contains Q y || b) (contains-insert S c y)
    ∙ or-turned (contains Q y) (same_cell y c) (contains S y)
    ∙ sym (contains-insert (union Q S) c y ∙ ap (λ b. same_cell y c || b) (contains-union Q S y)))

module _ (c : Cell) where
  pub added_union : (Qs Hs : List Generation) → IsAdded c Qs Hs → union_of Hs ≡ insert (union_of Qs) c
  added_union _ _ alone = union-empty (from_list (c ∷ []))
  added_union _ _ (here Q Qs) = union-insert Q (union_of Qs) c
  added_union _ _ (later Q Qs Hs a) = ap (union Q) (added_union Qs Hs a) ∙ insert-union Q (union_of Qs) c

  in_insert : (Q : Generation) → contains (insert Q c) c ≡ true
  in_insert Q = contains-insert Q c c ∙ or_left _ _ (same_cell_itself c)

  pub added_some : (Qs Hs : List Generation) → IsAdded c Qs Hs → All (λ Q. Q ≢ empty) Qs → All (λ Q. Q ≢ empty) Hs
  added_some _ _ alone some =
      All-cons (λ Q. Q ≢ empty) (from_list (c ∷ [])) [] (is_some (from_list (c ∷ [])) c (in_insert empty))
      (All-nil (λ Q. Q ≢ empty))
  added_some _ _ (here Q Qs) some =
      All-cons (λ Q. Q ≢ empty) (insert Q c) Qs (is_some (insert Q c) c (in_insert Q)) (All-tail (λ Q. Q ≢ empty) Q Qs some)
  added_some _ _ (later Q Qs Hs a) some =
      All-cons (λ Q. Q ≢ empty) Q Hs (All-head (λ Q. Q ≢ empty) Q Qs some)
      (added_some Qs Hs a (All-tail (λ Q. Q ≢ empty) Q Qs some))

  -- a cell of groups to which c was added is c or was there
  pub came_in : (Qs Hs : List Generation) → IsAdded c Qs Hs → (H : Generation) → Contains Hs H → (y : Cell) →
      contains H y ≡ true → contains (union_of Qs) y ≡ false → y ≡ c
  came_in Qs Hs a H one y h = insert-is (union_of Qs) c y (ap (λ U. contains U y) (sym (added_union Qs Hs a)) ∙ owned Hs H y one h)

-- ---- disjoint sets that make up a set

-- These are some cells each, which are G together, each cell in one of them.
pub record AreGroupsOf (G : Generation) (Hs : List Generation) : Type 0 where
  pub together : union_of Hs ≡ G
  pub once : AllPairs AreDisjoint Hs
  pub some : All (λ H. H ≢ empty) Hs

module _ (c : Cell) where
  not_in : (Qs : List Generation) (B : Generation) → contains (union_of Qs) c ≡ false → Contains Qs B → contains B c ≡ true → ⊥
  not_in Qs B new one h = both_ways (contains (union_of Qs) c) new (owned Qs B c one h)

  new_later : (Q : Generation) (Qs : List Generation) → contains (union_of (Q ∷ Qs)) c ≡ false → contains (union_of Qs) c ≡ false
  new_later Q Qs new = false_from_ne_true (contains (union_of Qs) c) (λ h. both_ways (contains (union_of (Q ∷ Qs)) c) new (in_second Q (union_of Qs) c h))

  added_once : (Qs Hs : List Generation) → IsAdded c Qs Hs → AllPairs AreDisjoint Qs → contains (union_of Qs) c ≡ false →
      AllPairs AreDisjoint Hs
  added_once _ _ alone pairs new =
      AllPairs-cons AreDisjoint (from_list (c ∷ [])) [] (All-nil (AreDisjoint (from_list (c ∷ [])))) (AllPairs-nil AreDisjoint)
  added_once _ _ (here Q Qs) pairs new =
      AllPairs-cons AreDisjoint (insert Q c) Qs (λ k d l y h m.
      elim (or_cases (same_cell y c) (contains Q y) (sym (contains-insert Q c y) ∙ h)) [
        | inl same ↦
            not_in Qs (get_or Qs k d) (new_later Q Qs new) (Contains-get_or Qs k d l)
            (ap (contains (get_or Qs k d)) (sym ((same_cell-is y c).0 same)) ∙ m)
        | inr old ↦ AllPairs-head AreDisjoint Q Qs pairs k d l y old m
      ]) (AllPairs-tail AreDisjoint Q Qs pairs)
  added_once _ _ (later Q Qs Hs a) pairs new =
      AllPairs-cons AreDisjoint Q Hs (λ k d l y h m.
      elim (cases_Bool (contains (union_of Qs) y)) [
        | inl old ↦
            let B = owner Qs y old in
            All-contains (AreDisjoint Q) Qs B.0 (AllPairs-head AreDisjoint Q Qs pairs) B.1 y h B.2
        | inr fresh ↦
            let same : y ≡ c = came_in c Qs Hs a (get_or Hs k d) (Contains-get_or Hs k d l) y m fresh in
            both_ways (contains (union_of (Q ∷ Qs)) c) new (in_first Q (union_of Qs) c (ap (contains Q) (sym same) ∙ h))
      ]) (added_once Qs Hs a (AllPairs-tail AreDisjoint Q Qs pairs) (new_later Q Qs new))

pub groups_make_up : (cs : List Cell) (Hs : List Generation) → IsGrouping cs Hs → T (is_rising cs) → AreGroupsOf (from_list cs) Hs
groups_make_up _ _ none rising = record {
  together = refl;
  once = AllPairs-nil AreDisjoint;
  some = All-nil (λ H. H ≢ empty);
}
groups_make_up _ _ (more c cs Qs Hs g a) rising =
    let rest = groups_make_up cs Qs g (second_holds (below_all c cs) (is_rising cs) rising) in
    record {
      together = added_union c Qs Hs a ∙ ap (λ U. insert U c) rest.together;
      once = added_once c Qs Hs a rest.once (ap (λ U. contains U c) rest.together ∙ contains-from_list cs c ∙ none_below c cs (first_holds (below_all c cs) (is_rising cs) rising));
      some = added_some c Qs Hs a rest.some;
    }
