-- Cells of lists, and what single tests show about them.
use Rattle.std.proofs.Common.{◌≡◌, ℕ, ◌%◌, ◌<◌, ◌+ℤ◌, ◌-ℤ◌, pos, Bool, true, false, cond, List, get_or, length, sym, refl, ap, subst, ◌∙◌, arith}
use Rattle.std.specs.Int.{bit_at}
use Rattle.std.specs.List.{All, list_any}
use Rattle.std.proofs.lemmas.Int.{ints}
use Rattle.std.proofs.lemmas.List.Folds.{list_any_at}
use Rattle.life_model.specs.Cell.{Cell, opposite, origin, plus, same_cell}
use Rattle.life_model.specs.Generation.{Generation, cells, contains, from_list}
use Rattle.life_model.proofs.Cells.{pair, same_cell-is}
use Rattle.life_model.proofs.Generations.{contains-cells, contains-from_list}
use Rattle.life_classes.specs.Nearness.{reaches}
use Rattle.life_classes.proofs.Reached.{reached_by}
use Rattle.life_plane.proofs.Listed.{place_of}
use Rattle.life_strays.specs.Strays.{IsHeir}

-- what a set reaches at no distance is in it
pub reached_itself : (P : Generation) (c : Cell) → reaches 0 P c ≡ true → contains P c ≡ true
reached_itself P c h =
    let one = reached_by 0 P c h in
    let near = one.2 in
    let left = near.left in
    let right = near.right in
    let above = near.above in
    let below = near.below in
    ap (contains P) (pair (omega (arith, ints)) (omega (arith, ints))) ∙ one.1

-- a set has what is in the list of its cells
pub listed_cell : (G : Generation) (cs : List Cell) (i : ℕ) (d : Cell) → cs ≡ cells G → i < length cs →
    contains G (get_or cs i d) ≡ true
listed_cell G cs i d is within =
    let x = get_or cs i d in
    contains-cells G x ∙ ap (list_any (same_cell x)) (sym is)
    ∙ list_any_at (same_cell x) cs i d within ((same_cell-is x x).1 refl)

-- what holds of a list's cells holds of those of its set
pub of_listed : (P : Cell → Type 0) (cs : List Cell) (L : Generation) (c : Cell) → L ≡ from_list cs → All P cs →
    contains L c ≡ true → P c
of_listed P cs L c is all here =
    let one = place_of cs c (sym (contains-from_list cs c) ∙ ap (λ G. contains G c) (sym is) ∙ here) in
    subst P one.2 (all one.0 origin one.1)

one_then : (b : Bool) → ◌≡◌ {A = ℕ} 1 (cond b 1 0) → b ≡ true
one_then true h = refl
one_then false h = absurd (omega arith)

-- a live cell of three beside each other in one of three rows around a cell is next to it, or is the cell itself
pub heir_by_row : (G K : Generation) (cell first : Cell) (row rows j : ℕ) →
    ((n : ℕ) → n < 64 → bit_at row n ≡ cond (contains G (first.0 +ℤ pos n, first.1)) 1 0) → contains K cell ≡ true →
    first ≡ (cell.0 -ℤ pos 1, (cell.1 -ℤ pos 1) +ℤ pos rows) → rows < 3 → j < 3 → bit_at row j ≡ 1 →
    IsHeir G K (first.0 +ℤ pos j, first.1)
heir_by_row G K cell first row rows j bits here is few less set =
    let across : first.0 ≡ (cell.0 -ℤ pos 1) = ap (λ c. c.0) is in
    let along : first.1 ≡ ((cell.1 -ℤ pos 1) +ℤ pos rows) = ap (λ c. c.1) is in (
      one_then (contains G (first.0 +ℤ pos j, first.1)) (sym set ∙ bits j (omega arith)),
      cell,
      here,
      record {
        left = omega (arith, ints);
        right = omega (arith, ints);
        above = omega (arith, ints);
        below = omega (arith, ints);
      },
    )

-- a cell whose place has an even row is not led to a live one
pub dead_by_row : (G : Generation) (cell by place : Cell) (row : ℕ) →
    ((j : ℕ) → j < 64 → bit_at row j ≡ cond (contains G (place.0 +ℤ pos j, place.1)) 1 0) → place ≡ plus cell by →
    row % 2 ≡ 0 → contains G (plus cell by) ≡ true → ⊥
dead_by_row G cell by place row bits is even here =
    let across : place.0 ≡ (cell.0 +ℤ by.0) = ap (λ c. c.0) is in
    let e : ◌≡◌ {A = Cell} (place.0 +ℤ pos 0, place.1) (plus cell by) = pair (omega (arith, ints)) (ap (λ c. c.1) is) in
    let set : bit_at row 0 ≡ 1 = bits 0 (omega arith) ∙ ap (λ t. cond t 1 0) (ap (contains G) e ∙ here) in
    absurd (omega arith)

-- where a set's cell is in the list of its cells
pub place_listed : (G : Generation) (cs : List Cell) (c : Cell) → cs ≡ cells G → contains G c ≡ true →
    (i : ℕ) × (i < length cs) × (get_or cs i origin ≡ c)
place_listed G cs c is here = place_of cs c (ap (list_any (same_cell c)) is ∙ sym (contains-cells G c) ∙ here)

-- the move from a cell to another is the one that led it there
pub move_back : (cell d other : Cell) → other ≡ plus cell d → plus other (opposite cell) ≡ d
move_back cell d other is =
    let across : other.0 ≡ (cell.0 +ℤ d.0) = ap (λ c. c.0) is in
    let along : other.1 ≡ (cell.1 +ℤ d.1) = ap (λ c. c.1) is in
    pair (omega (arith, ints)) (omega (arith, ints))
