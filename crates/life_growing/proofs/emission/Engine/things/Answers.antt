use Rattle.std.proofs.Common.{◌+◌, ◌∷◌, [], map, ap, subst, ◌∙◌, arith}
use Rattle.life_model.specs.Cell.{origin}
use Rattle.life_things.specs.Ways.{way_of as fit_way_of}
use Rattle.life_growing.specs.Settled.Things.{placed}
use Rattle.life_tracks.specs.Tracks.{way_of}
use Rattle.life_growing.specs.Emissions.{AreAll, Emission, IsEmissionThing, things_left}
use Rattle.life_growing.proofs.GoingPlaced.{placed_left, things_at}
use Rattle.life_growing.proofs.GoingThings.{all_things, cores_are_all, things_more}
use Rattle.life_growing.proofs.emission.Engine.things.Goals as goal

pub loop-n-init : goal.loop-n-init
loop-n-init c =
    cores_are_all (way_of c.self.inside.track) c.self.inside.lefts.items c.in_ok-all.all.items c.in_ok-all.ensures

pub loop-n-preserved : goal.loop-n-preserved
loop-n-preserved c =
    let way = way_of c.self.inside.track in
    let lefts = c.self.inside.lefts.items in
    let n = c.loop-n.n in
    let v = fit_way_of c.way_along-way.result in
    let inside = c.loop-n-test.true in
    let end = c.len-n-end.ensures in
    things_more way lefts n c.loop-n.all.items c.in_ok-things.things.items c.append.new.self.items c.in_ok-append.ensures.items
    (c.in_ok-things.ensures
    ∙ ap (map (placed (n + 1) origin (v ∷ []))) (things_at lefts c.index.result.now n (omega arith) c.index.ensures)
    ∙ placed_left n (n + 1) way v c.way_along-way.ensures (omega arith) (things_left lefts n))
    c.loop-n.invariant

pub returns : goal.returns
returns c =
    let past = c.loop-n-test.false in
    let end = c.len-n-end.ensures in
    let low = c.loop-n.auto.n-end in
    subst (λ (e : Emission). AreAll c.loop-n.all.items (IsEmissionThing e)) c.self.view_is
    (all_things (way_of c.self.inside.track) c.self.inside.lefts.items c.loop-n.n c.loop-n.all.items
    (let count = c.self.invariant.0 in omega arith)
    c.loop-n.invariant)
