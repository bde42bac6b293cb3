use Rattle.std.proofs.Common.{sym, subst}
use Rattle.std.specs.List.{All}
use Rattle.life_tracks.specs.Frames.Frames.{classes_at, parents_at}
use Rattle.life_tracks.specs.Films.{IsReturnOf}
use Rattle.life_tracks.specs.Readings.{AreReadOff}
use Rattle.life_tracks.proofs.Found.{all_tracks, engine_tracks, returns_of}
use Rattle.life_tracks.proofs.tracking.tracks.Goals as goal

pub tracks_to-requires-clause-found : goal.tracks_to-requires-clause-found
tracks_to-requires-clause-found c =
    subst (All (IsReturnOf c.args.film.now)) (sym c.as_slice.ensures.value)
    (returns_of c.args.film.now c.in_ok-found.found.items c.in_ok-found.ensures)

pub returns-clause-right : goal.returns-clause-right
returns-clause-right c R G T is =
    let film = c.args.film.now in
    all_tracks film c.in_ok-found.found.items c.in_ok-tracks.tracks.items c.in_ok-found.ensures
    (subst (λ rs. AreReadOff (classes_at film) (parents_at film) rs c.in_ok-tracks.tracks.items) c.as_slice.ensures.value
    c.in_ok-tracks.ensures) R G T is

pub returns-clause-each : goal.returns-clause-each
returns-clause-each c R G T b place way is inside engine short =
    let film = c.args.film.now in
    engine_tracks film c.in_ok-found.found.items c.in_ok-tracks.tracks.items c.in_ok-found.ensures
    (subst (λ rs. AreReadOff (classes_at film) (parents_at film) rs c.in_ok-tracks.tracks.items) c.as_slice.ensures.value
    c.in_ok-tracks.ensures) R G T is b place way inside engine short
