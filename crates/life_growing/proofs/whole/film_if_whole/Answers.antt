use Rattle.std.proofs.Common.{subst}
use Rattle.life_tracks.specs.Frames.Frames.{IsFilm}
use Rattle.life_growing.proofs.FindingClasses.{film_alone, film_by_unsplit}
use Rattle.life_growing.proofs.whole.film_if_whole.Goals as goal

pub returns-then-classes-ne1-clause-none : goal.returns-then-classes-ne1-clause-none
returns-then-classes-ne1-clause-none g c unsplit =
    let R = c.args.rule.now in
    let b = c.args.bound in
    let is = subst (λ G. IsFilm R G b c.in_ok-film.film) c.in_ok-plane.ensures.cells c.in_ok-film.ensures in
    c.if-classes-ne1.true (film_by_unsplit R c.args.cells.now b c.in_ok-film.film is c.classes.result.now
    c.classes.ensures.lent unsplit)

pub returns-clause-whole : goal.returns-clause-whole
returns-clause-whole g c =
    let R = c.args.rule.now in
    let b = c.args.bound in
    let is = subst (λ G. IsFilm R G b c.in_ok-film.film) c.in_ok-plane.ensures.cells c.in_ok-film.ensures in
    film_alone R c.args.cells.now b c.in_ok-film.film is c.classes.result.now c.classes.ensures.lent c.if-classes-ne1.false
