use Rattle.std.proofs.Common.{ap, codes, map, refl, sym, ◌++◌, ◌∙◌}
use Rattle.life_model.specs.Generation.{Generation}
use Rattle.life_cells.specs.Rules.{rule_text}
use Rattle.census_compare.specs.Alike.{least_body}
use Rattle.census_compare.specs.StartsRead.{start_read}
use Rattle.census_compare.proofs.Started.{start-more}
use Rattle.census_compare.proofs.starts.add_entry.Goals as goal

pub returns-in_ok-push : goal.returns-in_ok-push
returns-in_ok-push c =
    ap (map start_read) c.in_ok-push.ensures.items
    ∙ start-more c.args.starts.now.items c.args.collection.now c.args.entry.now _ c.in-Some.pattern (sym c.in-Some.is ∙ c.in_ok-pattern.ensures)
    (c.in_ok-text_of.ensures ∙ ap rule_text c.rule.ensures)
    (c.in_ok-code_of.ensures ∙ ap (λ (G : Generation). codes "_" ++ least_body G) c.cells.ensures.cells) refl c.as_slice.ensures
