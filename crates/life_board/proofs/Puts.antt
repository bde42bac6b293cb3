-- Cells put into a square one after another.
use Rattle.std.proofs.Common.{◌≡◌, ◌≢◌, ℕ, ℤ, pos, ◌+ℤ◌, ◌<◌, ⊎_elim, ◌⊎◌, inl, inr, true, false, ◌||◌, [], refl, sym, subst, ap, ◌∙◌, ◌≤◌, ◌+◌, min, max, List, slice_index, arith}
use Rattle.std.proofs.lemmas.Bool.{cases_eq}
use Rattle.std.proofs.Math.Bool.{or-true}
use Rattle.std.specs.Cmp.{both_ways}
use Rattle.life_model.specs.Cell.{Cell, same_cell}
use Rattle.life_model.specs.Generation.{Generation, contains, empty, from_list, insert}
use Rattle.life_model.proofs.Generations.{same_members, contains-insert, contains-empty}
use Rattle.life_model.proofs.Cells.{same_cell-is}
use Rattle.life_plane.specs.declared.tile.Tile.{Tile}
use Rattle.life_plane.specs.Area.{tile_cell}
use Rattle.life_slots.specs.Slots.{empty_tile}
use Rattle.life_slots.proofs.EndCells.{one_is_not_none}
use Rattle.life_slots.proofs.Inserted.{inserted_cases}
use Rattle.life_slots.proofs.Members.{BlockHas}
use Rattle.life_slots.proofs.Orders.{true_or_false}
use Rattle.life_slots.proofs.Shown.{empty_cell}
use Rattle.life_cells.specs.Limits.{IsWithin}
use Rattle.life_board.specs.Squares.{shown, IsVoidOutside}
use Rattle.life_board.proofs.Alone.{empty_row}
use Rattle.life_board.proofs.States.{live_at, is_live}

-- no cell is live in the empty tile
pub shown_none : (left top : ℤ) (tile : Tile) → tile ≡ empty_tile → (q : Cell) → contains (shown left top tile) q ≡ true → ⊥
shown_none left top tile is q live =
    let b : BlockHas left top tile.rows 64 q = live_at left top tile q live in
    let one : tile_cell tile b.row.j b.i ≡ 1 = b.row.set_bit in
    let none : tile_cell tile b.row.j b.i ≡ 0 = ap (λ (t : Tile). tile_cell t b.row.j b.i) is ∙ empty_cell b.row.j b.i in
    absurd (one_is_not_none (tile_cell tile b.row.j b.i) one none)

pub shown_empty : (left top : ℤ) (tile : Tile) → tile ≡ empty_tile → shown left top tile ≡ from_list []
shown_empty left top tile is =
    same_members (shown left top tile) empty
    (λ q.
    ⊎_elim
    (λ (live : contains (shown left top tile) q ≡ true). absurd (shown_none left top tile is q live))
    (λ (dead : contains (shown left top tile) q ≡ false). dead ∙ sym (contains-empty q))
    (true_or_false (contains (shown left top tile) q)))

pub inserted_here : (G : Generation) (c : Cell) → contains (insert G c) c ≡ true
inserted_here G c = contains-insert G c c ∙ ap (λ b. b || contains G c) ((same_cell-is c c).1 refl)

inserted_there : (G : Generation) (c q : Cell) → contains G q ≡ true → contains (insert G c) q ≡ true
inserted_there G c q is = contains-insert G c q ∙ ap (λ b. same_cell q c || b) is ∙ or-true (same_cell q c)

-- one cell made live
pub shown_put : (left top : ℤ) (before after : Tile) (x y : ℕ) (c : Cell) → x < 64 → y < 64 → c ≡ (left +ℤ pos x, top +ℤ pos y) →
    tile_cell after x y ≡ 1 →
    ((p q : ℕ) → p < 64 → (p ≢ x) ⊎ (q ≢ y) → tile_cell after p q ≡ tile_cell before p q) →
    shown left top after ≡ insert (shown left top before) c
shown_put left top before after x y c wide high is here others =
    same_members (shown left top after) (insert (shown left top before) c) (λ q. both_ways _ _ (there q) (back q))
  where
    live_before : (q : Cell) (p r : ℕ) → p < 64 → r < 64 → q ≡ (left +ℤ pos p, top +ℤ pos r) → tile_cell before p r ≡ 1 →
        contains (insert (shown left top before) c) q ≡ true
    live_before q p r p_in r_in at one = inserted_there (shown left top before) c q (ap (contains (shown left top before)) at ∙ is_live left top before p r p_in r_in one)

    there : (q : Cell) → contains (shown left top after) q ≡ true → contains (insert (shown left top before) c) q ≡ true
    there q live =
        let b : BlockHas left top after.rows 64 q = live_at left top after q live in
        let old : (b.row.j ≢ x) ⊎ (b.i ≢ y) → contains (insert (shown left top before) c) q ≡ true =
        λ apart. live_before q b.row.j b.i b.row.inside b.inside b.row.is (sym (others b.row.j b.i b.row.inside apart) ∙ b.row.set_bit) in
        ⊎_elim
        (λ (same_x : b.row.j ≡ x).
        ⊎_elim
        (λ (same_y : b.i ≡ y).
        let q_is : q ≡ c = b.row.is ∙ (λ k. (left +ℤ pos (same_x k), top +ℤ pos (same_y k))) ∙ sym is in
        ap (contains (insert (shown left top before) c)) q_is ∙ inserted_here (shown left top before) c)
        (λ (other : b.i ≢ y). old (inr other))
        (cases_eq b.i y))
        (λ (other : b.row.j ≢ x). old (inl other))
        (cases_eq b.row.j x)

    live_after : (q : Cell) (p r : ℕ) → p < 64 → r < 64 → q ≡ (left +ℤ pos p, top +ℤ pos r) → tile_cell before p r ≡ 1 → contains (shown left top after) q ≡ true
    live_after q p r p_in r_in at one =
        let kept : (p ≢ x) ⊎ (r ≢ y) → contains (shown left top after) q ≡ true =
        λ apart. ap (contains (shown left top after)) at ∙ is_live left top after p r p_in r_in (others p r p_in apart ∙ one) in
        let same : p ≡ x → r ≡ y → contains (shown left top after) q ≡ true =
        λ same_x same_y. ap (contains (shown left top after)) at ∙ is_live left top after p r p_in r_in ((λ k. tile_cell after (same_x k) (same_y k)) ∙ here) in
        ⊎_elim (λ same_x. ⊎_elim (λ same_y. same same_x same_y) (λ other. kept (inr other)) (cases_eq r y)) (λ other. kept (inl other)) (cases_eq p x)

    back : (q : Cell) → contains (insert (shown left top before) c) q ≡ true → contains (shown left top after) q ≡ true
    back q has =
        ⊎_elim
        (λ (first : q ≡ c). ap (contains (shown left top after)) (first ∙ is) ∙ is_live left top after x y wide high here)
        (λ (old : contains (shown left top before) q ≡ true).
        let b : BlockHas left top before.rows 64 q = live_at left top before q old in
        live_after q b.row.j b.i b.row.inside b.inside b.row.is b.row.set_bit)
        (inserted_cases (shown left top before) c q has)

-- what a square keeps then
pub within_put : (G H : Generation) (c : Cell) (age : ℕ) → H ≡ insert G c → IsWithin age c → ((q : Cell) → contains G q ≡ true → IsWithin age q) →
    (q : Cell) → contains H q ≡ true → IsWithin age q
within_put G H c age is here before q live =
    ⊎_elim (λ (same : q ≡ c). subst (IsWithin age) (sym same) here) (λ (old : contains G q ≡ true). before q old)
    (inserted_cases G c q (sym (ap (λ (K : Generation). contains K q) is) ∙ live))

-- the range of the rows that have a live cell, with one more row
pub void_widened : (before after : List ℕ) (first end low high y : ℕ) → IsVoidOutside before first end → y < 64 → low ≡ min first y → high ≡ max end (y + 1) →
    ((k : ℕ) → k ≢ y → slice_index after k ≡ slice_index before k) → IsVoidOutside after low high
void_widened before after first end low high y void small low_is high_is others =
    let order = void.order in
    let inside = void.inside in
    record {
      order = omega arith;
      inside = omega arith;
      above = λ k less. (let apart : k ≢ y = omega arith in others k apart ∙ void.above k (let before : k < first = omega arith in before));
      below = λ k past small. (let apart : k ≢ y = omega arith in others k apart ∙ void.below k (let behind : end ≤ k = omega arith in behind) small);
    }

pub void_none : (first end : ℕ) → first ≤ end → end ≤ 64 → IsVoidOutside empty_tile.rows first end
void_none first end order inside = record { order = order; inside = inside; above = λ k less. empty_row k; below = λ k past small. empty_row k }
