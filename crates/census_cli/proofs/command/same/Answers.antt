use Rattle.std.proofs.Common.{rules, ap, codes, ◌∙◌}
use Rattle.std.proofs.lemmas.Result.{IfOk-weaker}
use Rattle.clap.specs.Simple.{App}
use Rattle.clap.specs.Words.{new_app}
use Rattle.census_cli.specs.CommandLine.{with_reading}
use Rattle.census_cli.proofs.Shapes.{IsBuilt, adds_rule}
use Rattle.census_cli.proofs.command.same.Goals as goal

pub returns : goal.returns
returns c =
    let bare : IsBuilt c.after_help.result (new_app (codes "same")) = search (rules, c.new.ensures, c.about.ensures, c.after_help.ensures) in
    let with_json = adds_rule _ _ _ _ _ c.in_ok-arg.ensures c.json.ensures bare in
    let with_starts = adds_rule _ _ _ _ _ c.in_ok-arg-2.ensures c.starts.ensures with_json in
    let with_recursive = adds_rule _ _ _ _ _ c.in_ok-same.ensures c.recursive.ensures with_starts in
    IfOk-weaker c.with_reading.result _ _ (λ command whole. (ap (λ (a : App). a.top) (whole.0 ∙ ap with_reading with_recursive.0), whole.1)) c.with_reading.ensures
