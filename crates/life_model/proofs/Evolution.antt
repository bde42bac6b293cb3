-- Which cells are live next.
use Rattle.std.proofs.Common.{◌≡◌, Bool, true, false, cond, ◌||◌, flat_map, sym, refl, ap, ◌∙◌, ◌≡◌}
use Rattle.std.specs.List.{list_any}
use Rattle.std.proofs.lemmas.List.Folds.{list_any-append}
use Rattle.std.proofs.lemmas.Bool.Decides.{same_from_decides, Decides-like}
use Rattle.life_model.specs.Cell.{Cell, same_cell, plus, opposite, steps, around}
use Rattle.life_model.specs.Rule.{Rule, born, stays}
use Rattle.life_model.specs.Generation.{Generation, contains, from_list, cells}
use Rattle.life_model.specs.Evolution.{count_at, lives, candidates, next}
use Rattle.life_model.proofs.Cells.{same_cell-is, plus-opposite, plus-opposite_first}
use Rattle.life_model.proofs.Generations.{contains-keep, contains-from_list, contains-cells}
use Rattle.life_model.proofs.Tests.{and_absorbed, list_any-alike, list_any-flat_map, list_any-map, list_any-exchange, list_any-reverse, count_by-none}

-- one cell is a step from another exactly if that one is the opposite step from it
same_cell-plus : (c n d : Cell) → same_cell c (plus n d) ≡ same_cell n (plus c (opposite d))
same_cell-plus c n d =
    same_from_decides _ _ (same_cell-is c (plus n d))
    (Decides-like {P = n ≡ plus c (opposite d)} {Q = c ≡ plus n d} _
    (λ e. sym (ap (λ b. plus b d) e ∙ plus-opposite_first c d))
    (λ e. sym (ap (λ b. plus b (opposite d)) e ∙ plus-opposite n d))
    (same_cell-is n (plus c (opposite d))))

abbrev pub is_around : Cell → Cell → Bool
is_around c n = list_any (same_cell c) (around n)

pub is_around-swap : (c n : Cell) → is_around c n ≡ is_around n c
is_around-swap c n =
    list_any-map (same_cell c) (plus n) steps
    ∙ list_any-alike (λ d. same_cell c (plus n d)) (λ d. same_cell n (plus c (opposite d))) (same_cell-plus c n) steps
    ∙ sym (list_any-map (same_cell n) (λ d. plus c (opposite d)) steps)
    ∙ list_any-reverse (same_cell n) (around c)

pub same_cell-swap : (c n : Cell) → same_cell c n ≡ same_cell n c
same_cell-swap c n = same_from_decides _ _ (same_cell-is c n) (Decides-like _ (λ e. sym e) (λ e. sym e) (same_cell-is n c))

-- whether a cell around c is a member
next_to : (G : Generation) (c : Cell) → list_any (same_cell c) (flat_map around (cells G)) ≡ list_any (contains G) (around c)
next_to G c =
    list_any-flat_map (same_cell c) around (cells G)
    ∙ list_any-alike (λ n. is_around c n) (λ n. is_around n c) (is_around-swap c) (cells G)
    ∙ list_any-exchange (λ n m. same_cell n m) (cells G) (around c)
    ∙ list_any-alike (λ m. list_any (λ n. same_cell n m) (cells G)) (contains G)
    (λ m. list_any-alike (λ n. same_cell n m) (same_cell m) (λ n. same_cell-swap n m) (cells G) ∙ sym (contains-cells G m)) (around c)

pub contains-candidates : (G : Generation) (c : Cell) → contains (from_list (candidates G)) c ≡ (contains G c || list_any (contains G) (around c))
contains-candidates G c =
    contains-from_list (candidates G) c ∙ list_any-append (same_cell c) (cells G) (flat_map around (cells G))
    ∙ (λ i. sym (contains-cells G c) i || next_to G c i)

pub lives_near : (R : Rule) (live : Cell → Bool) (c : Cell) → lives R live c ≡ true → (live c || list_any live (around c)) ≡ true
unfolding lives born
lives_near R live c e =
    elim (live c) as (λ b. cond b (stays R (count_at live c)) (born R (count_at live c)) ≡ true → (b || list_any live (around c)) ≡ true) [
      | true ↦ λ _. refl
      | false ↦ elim (list_any live (around c)) as (λ b. list_any live (around c) ≡ b → born R (count_at live c) ≡ true → b ≡ true) [
        | true ↦ λ _ _. refl
        | false ↦ λ none born_here. sym (ap (born R) (count_by-none live (around c) none)) ∙ born_here
      ] refl
    ] e

-- A cell of the plane is live next if the rule says so of its neighbours.
pub contains-next : (R : Rule) (G : Generation) (c : Cell) → contains (next R G) c ≡ lives R (contains G) c
unfolding next
contains-next R G c =
    contains-keep (from_list (candidates G)) (lives R (contains G)) c
    ∙ and_absorbed _ _ (λ e. contains-candidates G c ∙ lives_near R (contains G) c e)
