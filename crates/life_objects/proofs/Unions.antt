-- Which cells are in a union.
use Rattle.std.proofs.Common.{◌≡◌, ◌+◌, true, false, ◌||◌, T, List, [], ◌∷◌, ◌++◌, ◌⊎◌, length, sym, ap, ◌∙◌, true≢false, arith}
use Rattle.std.specs.List.{list_any}
use Rattle.std.proofs.lemmas.Bool.{false_from_ne_true, or_cases, or_left, or_right}
use Rattle.std.proofs.lemmas.List.Folds.{list_any-append}
use Rattle.std.proofs.Math.Bool.{or_assoc, or-false, or_comm}
use Rattle.life_model.specs.Cell.{Cell, same_cell}
use Rattle.life_model.specs.Generation.{Generation, below_all, contains, empty, cells, from_list, is_rising, size}
use Rattle.life_model.proofs.Generations.{cells-rise, contains-empty, contains-from_list, contains-cells, from_list-cells, none_below, same_members, size-cells, size-insert}
use Rattle.life_model.proofs.Moves.{same_cell_itself}
use Rattle.life_model.proofs.Tests.{first_holds, second_holds}
use Rattle.life_objects.specs.Apart.{AreDisjoint}
use Rattle.life_objects.specs.Union.{union, union_of}

pub contains-union : (P Q : Generation) (c : Cell) → contains (union P Q) c ≡ (contains P c || contains Q c)
unfolding union
contains-union P Q c =
    contains-from_list (cells P ++ cells Q) c ∙ list_any-append (same_cell c) (cells P) (cells Q)
    ∙ (λ i. sym (contains-cells P c) i || sym (contains-cells Q c) i)

pub contains-union_of : (Ps : List Generation) (c : Cell) → contains (union_of Ps) c ≡ list_any (λ P. contains P c) Ps
contains-union_of [] c = contains-empty c
contains-union_of (P ∷ Ps) c = contains-union P (union_of Ps) c ∙ ap (λ b. contains P c || b) (contains-union_of Ps c)

pub union_of-append : (Ps Qs : List Generation) → union_of (Ps ++ Qs) ≡ union (union_of Ps) (union_of Qs)
union_of-append Ps Qs = same_members _ _ (λ c.
    contains-union_of (Ps ++ Qs) c ∙ list_any-append (λ P. contains P c) Ps Qs
    ∙ (λ i. sym (contains-union_of Ps c) i || sym (contains-union_of Qs c) i)
    ∙ sym (contains-union (union_of Ps) (union_of Qs) c))

pub union-comm : (P Q : Generation) → union P Q ≡ union Q P
union-comm P Q = same_members _ _ (λ c.
    contains-union P Q c ∙ or_comm (contains P c) (contains Q c) ∙ sym (contains-union Q P c))

pub union-assoc : (P Q S : Generation) → union (union P Q) S ≡ union P (union Q S)
union-assoc P Q S = same_members _ _ (λ c.
    contains-union (union P Q) S c ∙ ap (λ b. b || contains S c) (contains-union P Q c)
    ∙ or_assoc (contains P c) (contains Q c) (contains S c)
    ∙ sym (contains-union P (union Q S) c ∙ ap (λ b. contains P c || b) (contains-union Q S c)))

pub union-swap : (P Q S : Generation) → union P (union Q S) ≡ union Q (union P S)
union-swap P Q S = sym (union-assoc P Q S) ∙ ap (λ H. union H S) (union-comm P Q) ∙ union-assoc Q P S

pub union-empty : (P : Generation) → union P empty ≡ P
union-empty P = same_members _ _ (λ c.
    contains-union P empty c ∙ ap (λ b. contains P c || b) (contains-empty c) ∙ or-false (contains P c))

-- no cell is in the empty set
pub in_empty : (c : Cell) → contains empty c ≡ true → ⊥
in_empty c h = true≢false (sym h ∙ contains-empty c)

pub in_union : (P Q : Generation) (c : Cell) → contains (union P Q) c ≡ true →
    (contains P c ≡ true) ⊎ (contains Q c ≡ true)
in_union P Q c h = or_cases (contains P c) (contains Q c) (sym (contains-union P Q c) ∙ h)

pub in_first : (P Q : Generation) (c : Cell) → contains P c ≡ true → contains (union P Q) c ≡ true
in_first P Q c h = contains-union P Q c ∙ or_left _ _ h

pub in_second : (P Q : Generation) (c : Cell) → contains Q c ≡ true → contains (union P Q) c ≡ true
in_second P Q c h = contains-union P Q c ∙ or_right _ _ h

-- cells in order, and others that are none of them
size-more : (Q : Generation) (cs : List Cell) → T (is_rising cs) →
    ((c : Cell) → list_any (same_cell c) cs ≡ true → contains Q c ≡ true → ⊥) →
    size (from_list (cs ++ cells Q)) ≡ length cs + size Q
size-more Q [] rising none =
    ap size (from_list-cells Q) ∙ (let e : size Q ≡ 0 + size Q = omega arith in e)
size-more Q (c ∷ cs) rising none =
    let later = second_holds (below_all c cs) (is_rising cs) rising in
    let so_far = size-more Q cs later (λ d in_cs in_Q. none d (or_right (same_cell d c) (list_any (same_cell d) cs) in_cs) in_Q) in
    let new : contains (from_list (cs ++ cells Q)) c ≡ false =
    contains-from_list (cs ++ cells Q) c ∙ list_any-append (same_cell c) cs (cells Q)
    ∙ (λ i. none_below c cs (first_holds (below_all c cs) (is_rising cs) rising) i || sym (contains-cells Q c) i)
    ∙ false_from_ne_true (contains Q c) (λ in_Q. none c (or_left (same_cell c c) (list_any (same_cell c) cs) (same_cell_itself c)) in_Q) in
    let more = size-insert (from_list (cs ++ cells Q)) c new in
    omega arith

pub size-disjoint : (P Q : Generation) → AreDisjoint P Q → size (union P Q) ≡ size P + size Q
unfolding union
size-disjoint P Q apart =
    size-more Q (cells P) (cells-rise P) (λ c in_P in_Q. apart c (contains-cells P c ∙ in_P) in_Q)
    ∙ ap (λ n. n + size Q) (sym (size-cells P))
