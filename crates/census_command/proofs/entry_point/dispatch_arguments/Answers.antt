use Rattle.std.proofs.Common.{List, ℕ, arith, inr, map, string_bytes, refl, ap, subst, ◌∙◌}
use Rattle.census_command.specs.Gates.{HearsOutcome}
use Rattle.census_command.specs.Outcomes.{Outcome}
use Rattle.census_command.proofs.Outcomes.{untouched}
use Rattle.census_cli.specs.declared.fault.WordsFault.TheVariants as words_fault
use Rattle.census_errors.specs.Messages.{error_line}
use Rattle.census_errors.specs.declared.error.CommandError.TheVariants as command
use Rattle.watched.specs.Streams.{PutsBytes, Sink, Streams}
use Rattle.census_command.proofs.entry_point.dispatch_arguments.Goals as goal

pub returns-in_default-clause-outcome : goal.returns-in_default-clause-outcome
returns-in_default-clause-outcome g c =
    let same = untouched c.args.streams.now _ (ap (λ (s : Streams). s.input) c.streams.view_is) (ap (λ (s : Streams). s.output) c.streams.view_is) c.requires.streams in
    let line = subst (λ (s : Sink). PutsBytes (error_line command.Memory) s c.stop.new.errors.stream) (ap (λ (s : Streams). s.errors) c.streams.view_is) c.stop.ensures.line in
    inr (words_fault.Memory, tt, (c.stop.ensures.status, same, line))

pub returns-in_default-borrowed_words-clause-outcome : goal.returns-in_default-borrowed_words-clause-outcome
returns-in_default-borrowed_words-clause-outcome g c =
    let same = untouched c.args.streams.now _ (ap (λ (s : Streams). s.input) c.streams.view_is) (ap (λ (s : Streams). s.output) c.streams.view_is) c.requires.streams in
    let line = subst (λ (s : Sink). PutsBytes (error_line command.Memory) s c.stop-in_default-borrowed_words.new.errors.stream) (ap (λ (s : Streams). s.errors) c.streams.view_is) c.stop-in_default-borrowed_words.ensures.line in
    inr (words_fault.Memory, tt, (c.stop-in_default-borrowed_words.ensures.status, same, line))

pub returns-clause-outcome : goal.returns-clause-outcome
returns-clause-outcome g c =
    let words = ap (map (λ s. s.now)) c.as_slice-2.ensures.value ∙ c.in-Ok-borrowed_words.ensures ∙ ap (map string_bytes) (c.as_slice.ensures.value ∙ c.in-Ok.ensures) in
    subst (λ (words : List (List ℕ)). Outcome (g.S.Shelf.tellings c.args.shelf.now) words c.args.at_terminal c.dispatch.result c.args.streams.now c.dispatch.new.streams)
    words c.dispatch.ensures.outcome

pub returns-in_default-clause-gate : goal.returns-in_default-clause-gate
returns-in_default-clause-gate g c = inr ((λ h. absurd (omega (arith, c.stop.ensures.status))), refl)

pub returns-in_default-borrowed_words-clause-gate : goal.returns-in_default-borrowed_words-clause-gate
returns-in_default-borrowed_words-clause-gate g c = inr ((λ h. absurd (omega (arith, c.stop-in_default-borrowed_words.ensures.status))), refl)

pub returns-clause-gate : goal.returns-clause-gate
returns-clause-gate g c =
    let words = ap (map (λ s. s.now)) c.as_slice-2.ensures.value ∙ c.in-Ok-borrowed_words.ensures ∙ ap (map string_bytes) (c.as_slice.ensures.value ∙ c.in-Ok.ensures) in
    subst (λ (words : List (List ℕ)). HearsOutcome (g.S.Shelf.tellings c.args.shelf.now) words c.dispatch.result c.args.streams.now.input c.dispatch.new.streams.input (g.G.Gate.heard c.args.gate.now) (g.G.Gate.heard c.dispatch.new.gate))
    words c.dispatch.ensures.gate
