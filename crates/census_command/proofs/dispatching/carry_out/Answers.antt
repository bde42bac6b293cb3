use Rattle.std.proofs.Common.{IfErr, OnOk, ap, subst, sym, ◌∙◌}
use Rattle.census_cli.specs.declared.request.Request.{Request}
use Rattle.census_cli.specs.declared.request.Request.TheVariants as request
use Rattle.census_errors.specs.Sources.{source_of}
use Rattle.census_command.specs.Outcomes.{Ends}
use Rattle.census_command.specs.Requests.{Does, Fails}
use Rattle.census_command.specs.Streams.{HasSoundStreams}
use Rattle.census_command.proofs.Outcomes.{concluded, ends_at_first}
use Rattle.watched.specs.Streams.{Streams}
use Rattle.census_command.proofs.dispatching.carry_out.Goals as goal

pub returns-else-goes_on-clause-ends : goal.returns-else-goes_on-clause-ends
returns-else-goes_on-clause-ends g c =
    let shelf = g.S.Shelf.tellings c.args.shelf.now in
    let before = c.args.streams.now in
    let asked = request.Census c.in-Census.census in
    let ended = c.report_census-ended.result in
    let inside = c.streams.inside in
    let reached : Streams = record { input = inside.input.stream; output = inside.output.stream; errors = inside.errors.stream } in
    let after : Streams = record { input = inside.input.stream; output = inside.output.stream; errors = c.conclude.new.errors.stream } in
    let quiet = ap (λ (s : Streams). s.errors) c.streams.view_is ∙ c.report_census-ended.ensures.quiet in
    let to = sym c.streams.view_is in
    let concludes = c.conclude.ensures in
    let ends = concluded shelf asked c.args.explain before reached c.conclude.new.errors.stream quiet ended c.conclude.result
    (subst (λ (s : Streams). OnOk ended (Does shelf asked before s)) to c.report_census-ended.ensures.done)
    (subst (λ (s : Streams). OnOk ended (HasSoundStreams s)) to c.report_census-ended.ensures.sound)
    (subst (λ (s : Streams). IfErr ended (λ stopped. Fails stopped.error shelf asked before s)) to c.report_census-ended.ensures.fails)
    concludes in
    subst (λ (r : Request). Ends shelf r c.args.explain c.conclude.result before after) (sym c.in-Census.is) (ends_at_first shelf c.in-Census.census c.args.explain c.conclude.result before after (source_of c.in-Census.census.collections) (c.goes_on.ensures.stops c.if-goes_on.false) ends)

pub returns-in-Advance-clause-ends : goal.returns-in-Advance-clause-ends
returns-in-Advance-clause-ends g c =
    let shelf = g.S.Shelf.tellings c.args.shelf.now in
    let before = c.args.streams.now in
    let asked = request.Advance c.in-Advance.generations c.in-Advance.cells c.in-Advance.file in
    let ended = c.advance_asked-ended.result in
    let inside = c.streams-in-Advance.inside in
    let reached : Streams = record { input = inside.input.stream; output = inside.output.stream; errors = inside.errors.stream } in
    let after : Streams = record { input = inside.input.stream; output = inside.output.stream; errors = c.conclude-in-Advance.new.errors.stream } in
    let quiet = ap (λ (s : Streams). s.errors) c.streams-in-Advance.view_is ∙ c.advance_asked-ended.ensures.quiet in
    let to = sym c.streams-in-Advance.view_is in
    let concludes = c.conclude-in-Advance.ensures in
    let ends = concluded shelf asked c.args.explain before reached c.conclude-in-Advance.new.errors.stream quiet ended c.conclude-in-Advance.result
    (subst (λ (s : Streams). OnOk ended (Does shelf asked before s)) to c.advance_asked-ended.ensures.done)
    (subst (λ (s : Streams). OnOk ended (HasSoundStreams s)) to c.advance_asked-ended.ensures.sound)
    (subst (λ (s : Streams). IfErr ended (λ stopped. Fails stopped.error shelf asked before s)) to c.advance_asked-ended.ensures.fails)
    concludes in
    subst (λ (r : Request). Ends shelf r c.args.explain c.conclude-in-Advance.result before after) (sym c.in-Advance.is) ends

pub returns-in-Draw-clause-ends : goal.returns-in-Draw-clause-ends
returns-in-Draw-clause-ends g c =
    let shelf = g.S.Shelf.tellings c.args.shelf.now in
    let before = c.args.streams.now in
    let asked = request.Draw c.in-Draw.code c.in-Draw.rule in
    let ended = c.draw_asked-ended.result in
    let inside = c.streams-in-Draw.inside in
    let reached : Streams = record { input = inside.input.stream; output = inside.output.stream; errors = inside.errors.stream } in
    let after : Streams = record { input = inside.input.stream; output = inside.output.stream; errors = c.conclude-in-Draw.new.errors.stream } in
    let quiet = ap (λ (s : Streams). s.errors) c.streams-in-Draw.view_is ∙ c.draw_asked-ended.ensures.quiet in
    let to = sym c.streams-in-Draw.view_is in
    let concludes = c.conclude-in-Draw.ensures in
    let ends = concluded shelf asked c.args.explain before reached c.conclude-in-Draw.new.errors.stream quiet ended c.conclude-in-Draw.result
    (subst (λ (s : Streams). OnOk ended (Does shelf asked before s)) to c.draw_asked-ended.ensures.done)
    (subst (λ (s : Streams). OnOk ended (HasSoundStreams s)) to c.draw_asked-ended.ensures.sound)
    (subst (λ (s : Streams). IfErr ended (λ stopped. Fails stopped.error shelf asked before s)) to c.draw_asked-ended.ensures.fails)
    concludes in
    subst (λ (r : Request). Ends shelf r c.args.explain c.conclude-in-Draw.result before after) (sym c.in-Draw.is) ends
