use Rattle.std.proofs.Common.{rules, ap, codes, ◌∙◌}
use Rattle.std.proofs.lemmas.Result.{IfOk-weaker}
use Rattle.clap.specs.Simple.{App}
use Rattle.clap.specs.Words.{new_app}
use Rattle.census_cli.specs.CommandLine.{with_reading}
use Rattle.census_cli.proofs.Shapes.{IsBuilt, adds_rule}
use Rattle.census_cli.proofs.command.page.Goals as goal

pub returns : goal.returns
returns c =
    let bare : IsBuilt c.after_help.result (new_app (codes "page")) = search (rules, c.new.ensures, c.about.ensures, c.after_help.ensures) in
    let with_title = adds_rule _ _ _ _ _ c.in_ok-arg.ensures c.title.ensures bare in
    let with_note = adds_rule _ _ _ _ _ c.in_ok-arg-2.ensures c.note.ensures with_title in
    let with_sort = adds_rule _ _ _ _ _ c.in_ok-arg-3.ensures c.sort.ensures with_note in
    let with_top = adds_rule _ _ _ _ _ c.in_ok-arg-4.ensures c.top.ensures with_sort in
    let with_base = adds_rule _ _ _ _ _ c.in_ok-arg-5.ensures c.base.ensures with_top in
    let with_links = adds_rule _ _ _ _ _ c.in_ok-arg-6.ensures c.links.ensures with_base in
    let with_no_patterns = adds_rule _ _ _ _ _ c.in_ok-arg-7.ensures c.no_patterns.ensures with_links in
    let with_names = adds_rule _ _ _ _ _ c.in_ok-page.ensures c.names.ensures with_no_patterns in
    IfOk-weaker c.with_reading.result _ _ (λ command whole. (ap (λ (a : App). a.top) (whole.0 ∙ ap with_reading with_names.0), whole.1)) c.with_reading.ensures
