use Rattle.std.proofs.Common.{◌≡◌, ◌++◌, Some, length, map, slice_get, take, refl, sym, ap, ◌∙◌, append_assoc}
use Rattle.std.proofs.lemmas.Option.{slice_get_read}
use Rattle.census_facts.specs.Lines.{emits_line, text_of}
use Rattle.census_facts.proofs.Parts.{lines_taken}
use Rattle.census_facts.proofs.engines.push_emits.Goals as goal

pub loop-part-preserved : goal.loop-part-preserved
loop-part-preserved c =
    let line = emits_line c.args.names.now c.args.number in
    let text = c.args.text.now.items in
    let parts = c.args.parts.now in
    let i = c.loop-part.part-index in
    let part = c.part-item.result in
    let at : slice_get parts i ≡ Some part = slice_get_read parts (length parts) i part refl c.loop-part-test.true c.part-item.is in
    c.in_ok-push_emitted.ensures ∙ ap (λ t. t ++ line part) c.loop-part.invariant
    ∙ append_assoc text (text_of (map line (take i parts))) (line part)
    ∙ ap (λ t. text ++ t) (sym (lines_taken line parts i part at))
