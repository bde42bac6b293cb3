use Rattle.std.proofs.Common.{◌≡◌, sym, ap, subst, ◌∙◌}
use Rattle.life_growing.specs.Growths.{start_of}
use Rattle.life_tracks.specs.Tracks.{way_of}
use Rattle.life_census.specs.Counted.{AreCounted}
use Rattle.life_census.specs.Emitted.{parts_of_each}
use Rattle.life_census.proofs.Emissions.{tale_found}
use Rattle.life_census.proofs.telling.tale.Goals as goal

pub returns : goal.returns
returns c R b found =
    let e = c.args.engine.now in
    let parts = c.in_ok-emits.emits in
    let path : c.track-track.result.now ≡ e.path = c.track-track.ensures in
    let counted : AreCounted c.args.near (parts_of_each e.lefts) parts =
    subst (λ lefts. AreCounted c.args.near (parts_of_each lefts) parts) c.lefts.ensures c.in_ok-emits.ensures in
    let periods : c.in-Ok.period ≡ (way_of e.path).period = c.in-Ok.ensures.1 ∙ c.period.ensures ∙ ap (λ p. (way_of p).period) path in
    let moves : c.displacement.result ≡ (way_of e.path).displacement = c.displacement.ensures ∙ ap (λ p. (way_of p).displacement) path in
    c.tale_of_way.ensures
    ∙ (λ i. record { period = periods i; dx = (moves i).0; dy = (moves i).1; emits = parts })
    ∙ sym (tale_found R b (start_of e) e found c.args.near parts counted)
