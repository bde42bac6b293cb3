use Rattle.std.proofs.Common.{arith}
use Rattle.std.proofs.lemmas.Int.{ints}
use Rattle.life_tracks.proofs.FramesLemmas.Chained.{joined_at, nearer_through, one_above, two_above}
use Rattle.life_tracks.proofs.frames.nearby.join_at.Goals as goal

pub join_around-requires-clause-above : goal.join_around-requires-clause-above
join_around-requires-clause-above c =
    let number = c.place_number-number.ensures.number in
    let low = c.place_number-number.ensures.low in
    let high = c.place_number-number.ensures.high in
    one_above c.args.list.now c.as_slice.result.now c.args.n _ c.as_slice.ensures.cells (omega (arith, ints))

pub join_around-requires-2-clause-above : goal.join_around-requires-2-clause-above
join_around-requires-2-clause-above c =
    let number = c.place_number-number.ensures.number in
    let low = c.place_number-number.ensures.low in
    let high = c.place_number-number.ensures.high in
    two_above c.args.list.now c.as_slice.result.now c.args.n _ c.as_slice.ensures.cells (omega (arith, ints))

pub returns-clause-nearer : goal.returns-clause-nearer
returns-clause-nearer c =
    let G = c.args.list.now in
    let f = c.args.forest.now.items in
    let g = c.join_before.new.forest.items in
    let h = c.join_around.new.forest.items in
    let i = c.join_around-2.new.forest.items in
    nearer_through G f g i c.join_before.ensures.nearer
    (nearer_through G g h i c.join_around.ensures.nearer c.join_around-2.ensures.nearer)

pub returns-clause-at : goal.returns-clause-at
returns-clause-at c =
    let number = c.place_number-number.ensures.number in
    let low = c.place_number-number.ensures.low in
    let high = c.place_number-number.ensures.high in
    joined_at c.args.list.now c.join_before.new.forest.items c.join_around.new.forest.items c.join_around-2.new.forest.items
    c.as_slice.result.now c.args.n _ _ c.as_slice.ensures.cells c.join_around.ensures.nearer c.join_around-2.ensures.nearer
    c.join_before.ensures.before c.join_around.ensures.around c.join_around-2.ensures.around (omega (arith, ints)) (omega (arith, ints))
