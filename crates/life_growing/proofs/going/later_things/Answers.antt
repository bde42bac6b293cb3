use Rattle.std.proofs.Common.{◌+◌, [], ◌∷◌, map, ap, ◌∙◌, arith}
use Rattle.std.proofs.lemmas.Result.{IfOk-weaker}
use Rattle.life_model.specs.Cell.{origin}
use Rattle.life_things.specs.Ways.{way_of as fit_way_of}
use Rattle.life_growing.specs.Settled.Things.{placed}
use Rattle.life_tracks.specs.Tracks.{way_of}
use Rattle.life_growing.specs.Emissions.{things_left}
use Rattle.life_growing.proofs.GoingPlaced.{placed_later, placed_left, things_at}
use Rattle.life_growing.proofs.going.later_things.Goals as goal

pub returns-then-n-k-clause-later : goal.returns-then-n-k-clause-later
returns-then-n-k-clause-later c =
    let way = way_of c.args.track.now in
    let k = c.args.k in
    let lefts = c.args.lefts.now in
    IfOk-weaker c.things.result _ _
    (λ things h less. h
    ∙ ap (map (placed (k + 1) origin (fit_way_of c.way_along-way.result ∷ []))) (things_at lefts c.index-lefts-k.result k c.requires.step c.index-lefts-k.is)
    ∙ placed_left k (k + 1) way (fit_way_of c.way_along-way.result) c.way_along-way.ensures (omega arith) (things_left lefts k))
    c.things.ensures

pub returns-clause-again : goal.returns-clause-again
returns-clause-again c =
    let way = way_of c.args.track.now in
    let k = c.args.k in
    let lefts = c.args.lefts.now in
    let v = fit_way_of c.way_along-way.result in
    IfOk-weaker c.things-2.result _ _
    (λ things h less. h
    ∙ ap (map (placed ((k + 1) + c.way_along-way.result.generations) c.way_along-way.result.by (v ∷ [])))
    (things_at lefts c.index-lefts-k-2.result k c.requires.step c.index-lefts-k-2.is)
    ∙ placed_later k ((k + 1) + c.way_along-way.result.generations) way v c.way_along-way.ensures (omega arith) (things_left lefts k))
    c.things-2.ensures
