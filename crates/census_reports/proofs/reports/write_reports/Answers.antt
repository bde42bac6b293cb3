use Rattle.std.proofs.Common.{List, ℕ, [], subst}
use Rattle.census_reports.specs.Looking.{SaysRead}
use Rattle.census_reports.specs.Texts.{ReadsEach}
use Rattle.census_reports.proofs.Said.{lifted}
use Rattle.census_reports.proofs.reports.write_reports.Goals as goal

pub returns-clause-says : goal.returns-clause-says
returns-clause-says g c =
    let held = (g.S.Shelf.tellings c.args.shelf.now).held [] in
    let texts = c.in_ok-texts.texts.items in
    let read = subst (λ (ws : List (List ℕ)). ReadsEach held ws texts c.streams.inside.input.stream c.read_texts.new.input.stream) c.words_or_input.ensures c.in_ok-texts.ensures.read in
    rw (← c.streams.view_is)
    (lifted c.write_read.result _ _ _
    (λ says. (
      texts,
      record { read = read; fits = c.in_ok-texts.ensures.fits; sound = c.in_ok-texts.ensures.sound },
      subst (λ (ts : List (List ℕ)). SaysRead c.args.form c.args.reading.cut ts c.streams.inside.errors.stream c.write_read.new.errors.stream) c.as_slice.ensures.value says,
    ))
    c.write_read.ensures.says)
