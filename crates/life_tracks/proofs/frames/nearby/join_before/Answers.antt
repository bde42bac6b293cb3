use Rattle.std.proofs.Common.{◌≡◌, ◌-◌, get_or, length, subst, ap, arith}
use Rattle.std.specs.List.{All}
use Rattle.std.proofs.lemmas.Int.{ints}
use Rattle.life_model.specs.Cell.{origin}
use Rattle.life_model.specs.Generation.{cells}
use Rattle.life_cells.specs.Limits.{IsPlace}
use Rattle.life_classes.specs.Tags.{place_number}
use Rattle.life_classes.proofs.RowsRise.{numbers_rise}
use Rattle.life_tracks.specs.Frames.Nearby.{number_at}
use Rattle.life_tracks.proofs.FramesLemmas.Chained.{near_in_row, nearer_united}
use Rattle.life_tracks.proofs.frames.nearby.join_before.Goals as goal

pub returns-clause-nearer : goal.returns-clause-nearer
returns-clause-nearer c =
    let G = c.args.list.now in
    let n = c.args.n in
    let is = c.as_slice-all.ensures.cells in
    let placed = c.as_slice-all.ensures.placed in
    let all : All IsPlace (cells G) = subst (All IsPlace) is placed in
    let some = c.if-n-eq0.false in
    let inside = c.requires.inside in
    let long = ap length is in
    let up = numbers_rise c.as_slice-all.result.now c.as_slice-all.ensures.rising placed (n - 1) n origin (omega arith) (omega arith) in
    let one : place_number (get_or c.as_slice-all.result.now (n - 1) origin) ≡ number_at G (n - 1) =
    ap (λ xs. place_number (get_or xs (n - 1) origin)) is in
    let other : place_number (get_or c.as_slice-all.result.now n origin) ≡ number_at G n =
    ap (λ xs. place_number (get_or xs n origin)) is in
    let first = c.place_number.ensures.number in
    let second = c.place_number-2.ensures.number in
    let close = c.if-place_number.false in
    nearer_united G c.args.forest.now.items c.join.new.forest.items (n - 1) n (omega arith) inside
    (near_in_row (get_or (cells G) (n - 1) origin) (get_or (cells G) n origin) (all (n - 1) origin (omega arith)) (all n origin inside)
    (omega (arith, ints)) (omega (arith, ints))) c.join.ensures
