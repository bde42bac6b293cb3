-- Cells put into a set one after another.
use Rattle.std.proofs.Common.{◌≡◌, ℕ, ◌+◌, ◌<◌, ◌⊎◌, inl, inr, ⊎_elim, Bool, true, false, ◌||◌, All, List, [], ◌∷◌, ◌++◌, take, get_or, length, refl, sym, ap, ◌∙◌}
use Rattle.std.specs.List.{list_any}
use Rattle.std.proofs.lemmas.Cmp.{eq_by_cmp_equiv}
use Rattle.std.proofs.lemmas.List.{take_more}
use Rattle.std.proofs.lemmas.Map.Views.{All-from_any}
use Rattle.life_model.specs.Cell.{Cell, same_cell}
use Rattle.life_model.specs.Generation.{Generation, contains, from_list, insert}
use Rattle.life_model.proofs.Cells.{cell_cmp_total, same_cell-is}
use Rattle.life_model.proofs.Generations.{same_members, contains-insert, contains-from_list}
use Rattle.life_slots.proofs.Orders.{either_true}

-- a member after one cell more is that cell or was one
pub inserted_cases : (G : Generation) (c d : Cell) → contains (insert G c) d ≡ true → (d ≡ c) ⊎ (contains G d ≡ true)
inserted_cases G c d has =
    ⊎_elim (λ same. inl ((same_cell-is d c).0 same)) (λ old. inr old)
    (either_true (same_cell d c) (contains G d) (sym (contains-insert G c d) ∙ has))

any_last : (p : Cell → Bool) (cs : List Cell) (c : Cell) → list_any p (cs ++ c ∷ []) ≡ (p c || list_any p cs)
any_last p [] c = refl
any_last p (d ∷ ds) c = ap (λ b. p d || b) (any_last p ds c) ∙ turned (p d) (p c) (list_any p ds)
  where
    turned : (a b r : Bool) → (a || (b || r)) ≡ (b || (a || r))
    turned true true r = refl
    turned true false r = refl
    turned false b r = refl

-- a cell at a list's end is in its set as one more
from_list_push : (cs : List Cell) (c : Cell) → from_list (cs ++ c ∷ []) ≡ insert (from_list cs) c
from_list_push cs c =
    same_members _ _
    (λ q. contains-from_list (cs ++ c ∷ []) q ∙ any_last (same_cell q) cs c ∙ sym (contains-insert (from_list cs) c q ∙ ap (λ b. same_cell q c || b) (contains-from_list cs q)))

pub list_more : (cs : List Cell) (i : ℕ) (d : Cell) (c : Cell) (before after : Generation) → i < length cs →
    before ≡ from_list (take i cs) → after ≡ insert before c → c ≡ get_or cs i d →
    after ≡ from_list (take (i + 1) cs)
list_more cs i d c before after inside before_is after_is cell_is =
    after_is
    ∙ (λ j. insert (before_is j) (cell_is j))
    ∙ sym (ap from_list (take_more cs i d inside) ∙ from_list_push (take i cs) (get_or cs i d))

-- what holds of each member holds of each of the cells in a list of them
pub all_listed : (P : Cell → Type 0) (G : Generation) (cs : List Cell) → ((q : Cell) → contains G q ≡ list_any (same_cell q) cs) →
    ((q : Cell) → contains G q ≡ true → P q) → All P cs
all_listed P G cs listed each = All-from_any (eq_by_cmp_equiv cell_cmp_total) P cs (λ q has. each q (listed q ∙ has))
