use Rattle.std.proofs.Common.{[], inr, subst, sym, ◌∙◌}
use Rattle.census_folders.specs.Hearing.{words_or_input}
use Rattle.census_identify.specs.Identifies.{Stops}
use Rattle.watched.specs.Streams.{PutsMoreBytes, Streams}
use Rattle.census_identify.proofs.Words.{stops_told, texts}
use Rattle.census_identify.proofs.identifying.identify.Goals as goal

pub returns-in-Err : goal.returns-in-Err
returns-in-Err g c =
    let held = (g.S.Shelf.tellings c.args.shelf.now).held [] in
    let before = c.args.streams.now in
    let now : Streams = record { input = c.streams.inside.input.stream; output = c.streams.inside.output.stream; errors = c.streams.inside.errors.stream } in
    let stops = subst (λ (s : Streams). Stops c.in-Err.error [] held c.args.inquiry c.args.names.now (texts c.words_or_input.result.now) before s) (sym c.streams.view_is) c.in-Err.ensures in
    let errors = c.tell.new.self.stream in
    inr (record {
      error = c.in-Err.error;
      status_is = c.status.ensures;
      stops = stops_told c.in-Err.error held c.args.inquiry c.args.names.now (words_or_input (texts c.args.words.now)) before now errors
          (subst (λ ws. Stops c.in-Err.error [] held c.args.inquiry c.args.names.now ws before now) c.words_or_input.ensures stops)
          (subst (λ l. PutsMoreBytes l now.errors errors) (c.as_bytes.ensures.value ∙ c.line.ensures) c.tell.ensures);
    })
