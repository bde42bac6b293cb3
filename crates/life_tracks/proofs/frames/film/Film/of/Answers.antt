use Rattle.life_tracks.proofs.FramesLemmas.Backwards.{film_is}
use Rattle.life_tracks.proofs.frames.film.Film.of.Goals as goal

pub returns : goal.returns
returns g c =
    let R = c.args.rule.now in
    let G = g.P.Plane.members c.args.plane.now in
    film_is R G c.args.length _ (c.in_ok-frames.ensures R G c.args.length c.in_ok-all.ensures)
