use Rattle.std.proofs.Common.{◌≡◌, ◌≢◌, ℕ, pos, ◌+ℤ◌, ◌-ℤ◌, ◌<ℤ◌, ◌≤ℤ◌, ◌<◌, ◌⊎◌, ⊎_elim, w32, to_z, of_z, IfNone, sym, subst, ap, ◌∙◌, arith}
use Rattle.std.proofs.lemmas.Int.{ints}
use Rattle.std.proofs.lemmas.Nat.Bits.{bit_at-zero}
use Rattle.life_slots.specs.Cells.{state_at}
use Rattle.life_board.specs.Squares.{members_of}
use Rattle.life_board.proofs.Shifts.{inside_or_outside}
use Rattle.life_board.proofs.States.{state_inside, state_outside}
use Rattle.life_board.proofs.covering.row_from.Goals as goal

pub returns-in-None : goal.returns-in-None
returns-in-None c = λ j small.
    let square = c.args.square.now in
    let reach = c.requires.reach in
    let place = c.requires.kept.place in
    let cell_is : to_z w32 (of_z w32 c.args.cell.1) ≡ c.args.cell.1 = omega (arith, ints, reach.north, reach.south) in
    let top_is : to_z w32 (of_z w32 c.args.square.now.top) ≡ c.args.square.now.top = omega (arith, ints, place.north, place.south) in
    let outside =
    subst (λ r. IfNone r ((n : ℕ) → n < 64 → to_z w32 (of_z w32 c.args.cell.1) ≢ (to_z w32 (of_z w32 c.args.square.now.top) +ℤ pos n)))
    c.in-None.is c.index_from.ensures.outside in
    bit_at-zero j
    ∙ sym
    (state_outside square.left square.top square.tile (c.args.cell.0 +ℤ pos j) c.args.cell.1
    (λ x y wide high across down. outside y high (cell_is ∙ down ∙ sym (ap (λ z. z +ℤ pos y) top_is))))

pub returns-in-Some : goal.returns-in-Some
returns-in-Some c = λ j small.
    let square = c.args.square.now in
    let reach = c.requires.reach in
    let place = c.requires.kept.place in
    let down : c.args.cell.1 ≡ (c.args.square.now.top +ℤ pos c.in-Some.y) =
    omega (arith, ints, c.in-Some.ensures.is, reach.north, reach.south, place.north, place.south) in
    ⊎_elim
    (λ (here : (n : ℕ) × (n < 64) × (((c.args.cell.0 +ℤ pos j) -ℤ c.args.square.now.left) ≡ pos n)).
    let n : ℕ = here.0 in
    let across : (c.args.cell.0 +ℤ pos j) ≡ (c.args.square.now.left +ℤ pos here.0) = omega (arith, ints, here.2) in
    c.bits_from.ensures.inside j here.0 small here.1 (omega (arith, ints, here.2, reach.west, reach.east, place.west, place.east))
    ∙ sym (state_inside square.left square.top square.tile here.0 c.in-Some.y here.1 c.in-Some.ensures.inside)
    ∙ sym (λ i. state_at (members_of c.args.square.now) (across i) (down i)))
    (λ (apart : (((c.args.cell.0 +ℤ pos j) -ℤ c.args.square.now.left) <ℤ pos 0) ⊎ (pos 64 ≤ℤ ((c.args.cell.0 +ℤ pos j) -ℤ c.args.square.now.left))).
    ⊎_elim
    (λ (before : ((c.args.cell.0 +ℤ pos j) -ℤ c.args.square.now.left) <ℤ pos 0).
    c.bits_from.ensures.before j small (omega (arith, ints, before, reach.west, reach.east, place.west, place.east)))
    (λ (behind : pos 64 ≤ℤ ((c.args.cell.0 +ℤ pos j) -ℤ c.args.square.now.left)).
    c.bits_from.ensures.behind j small (omega (arith, ints, behind, reach.west, reach.east, place.west, place.east)))
    apart
    ∙ sym
    (state_outside square.left square.top square.tile (c.args.cell.0 +ℤ pos j) c.args.cell.1
    (λ x y wide high across down_too.
    ⊎_elim
    (λ (before : ((c.args.cell.0 +ℤ pos j) -ℤ c.args.square.now.left) <ℤ pos 0). absurd (omega (arith, ints, before, across)))
    (λ (behind : pos 64 ≤ℤ ((c.args.cell.0 +ℤ pos j) -ℤ c.args.square.now.left)). absurd (omega (arith, ints, behind, across)))
    apart)))
    (inside_or_outside ((c.args.cell.0 +ℤ pos j) -ℤ c.args.square.now.left))
