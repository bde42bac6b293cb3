use Rattle.std.proofs.Common.{◌≡◌, ◌≢◌, ℕ, pos, ◌+ℤ◌, ◌<◌, w32, to_z, of_z, IfNone, false, sym, subst, ap, ◌∙◌, arith}
use Rattle.std.proofs.lemmas.Int.{ints}
use Rattle.life_model.specs.Generation.{contains}
use Rattle.life_plane.specs.Flags.{as_bit}
use Rattle.life_slots.proofs.Splits.{same_flag}
use Rattle.life_board.specs.Squares.{members_of}
use Rattle.life_board.proofs.States.{state_inside, state_outside}
use Rattle.life_board.proofs.covering.is_live.Goals as goal

pub returns-in-None : goal.returns-in-None
returns-in-None c =
    let square = c.args.square.now in
    let reach = c.requires.reach in
    let place = c.requires.kept.place in
    let cell_is : to_z w32 (of_z w32 c.args.cell.0) ≡ c.args.cell.0 = omega (arith, ints, reach.west, reach.east) in
    let left_is : to_z w32 (of_z w32 c.args.square.now.left) ≡ c.args.square.now.left = omega (arith, ints, place.west, place.east) in
    let outside =
    subst (λ r. IfNone r ((n : ℕ) → n < 64 → to_z w32 (of_z w32 c.args.cell.0) ≢ (to_z w32 (of_z w32 c.args.square.now.left) +ℤ pos n)))
    c.in-None.is c.index_from.ensures.outside in
    same_flag false (contains (members_of square) c.args.cell)
    (sym (state_outside square.left square.top square.tile c.args.cell.0 c.args.cell.1
    (λ x y wide high across down. outside x wide (cell_is ∙ across ∙ sym (ap (λ z. z +ℤ pos x) left_is)))))

pub returns-in-None-index_from : goal.returns-in-None-index_from
returns-in-None-index_from c =
    let square = c.args.square.now in
    let reach = c.requires.reach in
    let place = c.requires.kept.place in
    let cell_is : to_z w32 (of_z w32 c.args.cell.1) ≡ c.args.cell.1 = omega (arith, ints, reach.north, reach.south) in
    let top_is : to_z w32 (of_z w32 c.args.square.now.top) ≡ c.args.square.now.top = omega (arith, ints, place.north, place.south) in
    let outside =
    subst (λ r. IfNone r ((n : ℕ) → n < 64 → to_z w32 (of_z w32 c.args.cell.1) ≢ (to_z w32 (of_z w32 c.args.square.now.top) +ℤ pos n)))
    c.in-None-index_from.is c.index_from-in-Some.ensures.outside in
    same_flag false (contains (members_of square) c.args.cell)
    (sym (state_outside square.left square.top square.tile c.args.cell.0 c.args.cell.1
    (λ x y wide high across down. outside y high (cell_is ∙ down ∙ sym (ap (λ z. z +ℤ pos y) top_is)))))

pub returns-in-Some-index_from : goal.returns-in-Some-index_from
returns-in-Some-index_from c =
    let square = c.args.square.now in
    let reach = c.requires.reach in
    let place = c.requires.kept.place in
    let across : c.args.cell.0 ≡ (c.args.square.now.left +ℤ pos c.in-Some.x) = omega (arith, ints, c.in-Some.ensures.is, reach.west, reach.east, place.west, place.east) in
    let down : c.args.cell.1 ≡ (c.args.square.now.top +ℤ pos c.in-Some-index_from.y) =
    omega (arith, ints, c.in-Some-index_from.ensures.is, reach.north, reach.south, place.north, place.south) in
    same_flag c.get.result (contains (members_of square) c.args.cell)
    (c.get.ensures
    ∙ sym (state_inside square.left square.top square.tile c.in-Some.x c.in-Some-index_from.y c.in-Some.ensures.inside c.in-Some-index_from.ensures.inside)
    ∙ sym (λ i. as_bit (contains (members_of square) (across i, down i))))
