use Rattle.std.proofs.Common.{arith}
use Rattle.std.proofs.lemmas.Option.{IfSome_then}
use Rattle.std.proofs.lemmas.Result.{IfOk-weaker}
use Rattle.life_ash.proofs.Finding.{of_none, of_some}
use Rattle.life_orbit.proofs.Finding.{none_then}
use Rattle.life_tracks.specs.Frames.Frames.{IsFilm}
use Rattle.life_growth.specs.Unsplit.{IsUnsplit}
use Rattle.life_growing.proofs.FindingEngines.{engine_unsplit}
use Rattle.life_growing.proofs.engines.engine_of.Goals as goal

pub returns-in_default-clause-none : goal.returns-in_default-clause-none
returns-in_default-clause-none g c long engine =
    of_none c.in_default.is c.in_ok-film.ensures.none
    (engine_unsplit c.args.rule.now c.args.bound c.args.length c.args.cells.now (omega arith) engine)

pub engine_in-requires-clause-film : goal.engine_in-requires-clause-film
engine_in-requires-clause-film g c =
    let R = c.args.rule.now in
    let E = c.args.cells.now in
    (E, of_some (IsFilm R E c.args.length) c.in-Some.is c.in_ok-film.ensures.some, c.requires.within)

pub returns-clause-start : goal.returns-clause-start
returns-clause-start g c =
    let R = c.args.rule.now in
    let E = c.args.cells.now in
    IfOk-weaker c.engine_in.result _ _
    (λ found starts.
    IfSome_then found starts (λ engine start.
    start E (of_some (IsFilm R E c.args.length) c.in-Some.is c.in_ok-film.ensures.some)
    (of_some (λ _. IsUnsplit R c.args.length E) c.in-Some.is c.in_ok-film.ensures.whole)))
    c.engine_in.ensures.start

pub returns-clause-none : goal.returns-clause-none
returns-clause-none g c =
    let R = c.args.rule.now in
    let E = c.args.cells.now in
    IfOk-weaker c.engine_in.result _ _
    (λ found none.
    none_then found none (λ told. told E (of_some (IsFilm R E c.args.length) c.in-Some.is c.in_ok-film.ensures.some)))
    c.engine_in.ensures.none
