use Rattle.std.proofs.Common.{◌≡◌, ◌++◌, ◌+◌, Some, length, map, slice_get, take, refl, sym, ap, ◌∙◌, append_assoc}
use Rattle.std.proofs.lemmas.Option.{slice_get_read}
use Rattle.census_facts.specs.Lines.{emits_line, engine_line, engines_lines, text_of}
use Rattle.census_facts.proofs.Parts.{engines_taken}
use Rattle.census_facts.proofs.engines.push_engines.Goals as goal

pub loop-n-preserved : goal.loop-n-preserved
loop-n-preserved c =
    let names = c.args.names.now in
    let lines = c.args.lines.now in
    let n = c.loop-n.n in
    let engines = c.index-lines-n.result in
    let at : slice_get lines n ≡ Some engines = slice_get_read lines (length lines) n engines refl c.loop-n-test.true c.index-lines-n.is in
    let before = text_of (engines_lines names 1 (take n lines)) in
    let first = engine_line (n + 1) engines in
    let behind = text_of (map (emits_line names (n + 1)) engines.tale.emits) in
    c.in_ok-push_emits.ensures
    ∙ (λ k. c.in_ok-push_engine.ensures k ++ text_of (map (emits_line names (n + 1)) (c.as_slice.ensures.parts k)))
    ∙ ap (λ t. (t ++ first) ++ behind) c.loop-n.invariant
    ∙ append_assoc (c.args.text.now.items ++ before) first behind
    ∙ append_assoc c.args.text.now.items before (first ++ behind)
    ∙ ap (λ t. c.args.text.now.items ++ t) (sym (engines_taken names lines n engines c.loop-n-test.true at))
