use Rattle.std.proofs.Common.{◌≡◌, ◌≤ℤ◌, get_or, length, subst, ap, arith}
use Rattle.std.specs.List.{All}
use Rattle.std.proofs.lemmas.Int.{ints}
use Rattle.life_model.specs.Cell.{origin}
use Rattle.life_model.specs.Generation.{cells}
use Rattle.life_cells.specs.Limits.{IsPlace}
use Rattle.life_classes.specs.Tags.{place_number}
use Rattle.life_tracks.specs.Frames.Nearby.{number_at}
use Rattle.life_tracks.proofs.FramesLemmas.Chained.{least_by_test, near_by_number, nearer_united}
use Rattle.life_tracks.proofs.frames.nearby.join_next.Goals as goal

pub returns-then-place_number-number-clause-next : goal.returns-then-place_number-number-clause-next
returns-then-place_number-number-clause-next c inside near =
    let G = c.args.list.now in
    let at = c.args.at in
    let is = c.as_slice-all.ensures.cells in
    let same : place_number (get_or c.as_slice-all.result.now at origin) ≡ number_at G at =
    ap (λ xs. place_number (get_or xs at origin)) is in
    let first = c.place_number.ensures.number in
    let far = c.if-place_number-number.true in
    let low = c.requires.low in
    let high = c.requires.high in
    absurd (omega (arith, ints))

pub returns-clause-nearer : goal.returns-clause-nearer
returns-clause-nearer c =
    let G = c.args.list.now in
    let n = c.args.n in
    let at = c.args.at in
    let is = c.as_slice-all.ensures.cells in
    let all : All IsPlace (cells G) = subst (All IsPlace) is c.as_slice-all.ensures.placed in
    let past = c.if-at-all.false in
    let long = ap length is in
    let same : place_number (get_or c.as_slice-all.result.now at origin) ≡ number_at G at =
    ap (λ xs. place_number (get_or xs at origin)) is in
    let first = c.place_number.ensures.number in
    let close = c.if-place_number-number.false in
    let low = c.requires.low in
    let high = c.requires.high in
    let least : c.args.number ≤ℤ number_at G at = least_by_test _ _ (c.requires.parts.after at origin (omega arith) (omega arith)) in
    nearer_united G c.args.forest.now.items c.join.new.forest.items at n (omega arith) c.requires.inside
    (near_by_number G all n at c.args.number c.requires.inside (omega arith) c.requires.above (omega (arith, ints)) (omega (arith, ints)))
    c.join.ensures
