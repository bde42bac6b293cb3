use Rattle.std.proofs.Common.{rules, ap, codes, ◌∙◌}
use Rattle.std.proofs.lemmas.Result.{IfOk-weaker}
use Rattle.clap.specs.Simple.{App}
use Rattle.clap.specs.Words.{new_app}
use Rattle.census_cli.specs.CommandLine.{with_reading}
use Rattle.census_cli.proofs.Shapes.{IsBuilt, adds_rule}
use Rattle.census_cli.proofs.command.table.Goals as goal

pub returns : goal.returns
returns c =
    let bare : IsBuilt c.after_help.result (new_app (codes "table")) = search (rules, c.new.ensures, c.about.ensures, c.after_help.ensures) in
    let with_csv = adds_rule _ _ _ _ _ c.in_ok-arg.ensures c.csv.ensures bare in
    let with_json = adds_rule _ _ _ _ _ c.in_ok-arg-2.ensures c.json.ensures with_csv in
    let with_safe = adds_rule _ _ _ _ _ c.in_ok-arg-3.ensures c.safe.ensures with_json in
    let with_parts = adds_rule _ _ _ _ _ c.in_ok-arg-4.ensures c.parts.ensures with_safe in
    let with_codes = adds_rule _ _ _ _ _ c.in_ok-arg-5.ensures c.codes.ensures with_parts in
    let with_engines = adds_rule _ _ _ _ _ c.in_ok-arg-6.ensures c.engines.ensures with_codes in
    let with_sort = adds_rule _ _ _ _ _ c.in_ok-arg-7.ensures c.code_sort.ensures with_engines in
    let with_unnamed = adds_rule _ _ _ _ _ c.in_ok-arg-8.ensures c.unnamed.ensures with_sort in
    let with_names = adds_rule _ _ _ _ _ c.in_ok-table.ensures c.names.ensures with_unnamed in
    IfOk-weaker c.with_reading.result _ _ (λ command whole. (ap (λ (a : App). a.top) (whole.0 ∙ ap with_reading with_names.0), whole.1)) c.with_reading.ensures
