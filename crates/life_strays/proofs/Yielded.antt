-- The elements that a loop has met, and those that are left.
use Rattle.std.proofs.Common.{◌≡◌, List, [], ◌∷◌, ◌++◌, sym, ap, subst, ◌∙◌, append_assoc}
use Rattle.std.specs.List.{All, Contains}
use Rattle.std.proofs.lemmas.List.Elements.{All-contains, All-push, All-same, Contains-append_right}
use Rattle.life_objects.proofs.Lists.{Contains-head}

-- what comes next is one of all elements
pub one_of_all : {X : Type 0} (all before rest later : List X) (x : X) → before ++ rest ≡ all → rest ≡ x ∷ later →
    Contains all x
one_of_all all before rest later x order is =
    subst (λ xs. Contains xs x) order
    (Contains-append_right before rest x (subst (λ xs. Contains xs x) (sym is) (Contains-head x later)))

-- what holds of all elements holds of the one that comes next
pub met_in_order : {X : Type 0} (P : X → Type 0) (all before rest later : List X) (x : X) → All P all →
    before ++ rest ≡ all → rest ≡ x ∷ later → P x
met_in_order P all before rest later x holds order is =
    All-contains P all x holds (one_of_all all before rest later x order is)

-- the elements so far, and those that are left
pub next_in_order : {X : Type 0} (all before rest later : List X) (x : X) → before ++ rest ≡ all → rest ≡ x ∷ later →
    (before ++ x ∷ []) ++ later ≡ all
next_in_order all before rest later x order is =
    append_assoc before (x ∷ []) later ∙ ap (λ xs. before ++ xs) (sym is) ∙ order

-- what holds of those that are kept, and of one more, holds of those with it
pub one_more : {X : Type 0} (P : X → Type 0) (kept more : List X) (x : X) → more ≡ kept ++ x ∷ [] → All P kept → P x →
    All P more
one_more P kept more x is all one = All-same P more (kept ++ x ∷ []) is (All-push P kept x all one)
