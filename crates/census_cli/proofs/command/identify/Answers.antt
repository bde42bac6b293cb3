use Rattle.std.proofs.Common.{rules, ap, codes}
use Rattle.std.proofs.lemmas.Result.{IfOk-weaker}
use Rattle.clap.specs.Simple.{App}
use Rattle.clap.specs.Words.{new_app}
use Rattle.census_cli.proofs.Shapes.{IsBuilt, adds_rule}
use Rattle.census_cli.proofs.command.identify.Goals as goal

pub returns : goal.returns
returns c =
    let bare : IsBuilt c.after_help.result (new_app (codes "identify")) = search (rules, c.new.ensures, c.about.ensures, c.after_help.ensures) in
    let with_search = adds_rule _ _ _ _ _ c.in_ok-arg.ensures c.search.ensures bare in
    let with_cells = adds_rule _ _ _ _ _ c.in_ok-arg-2.ensures c.cells.ensures with_search in
    let with_near = adds_rule _ _ _ _ _ c.in_ok-arg-3.ensures c.near.ensures with_cells in
    let with_horizon = adds_rule _ _ _ _ _ c.in_ok-arg-4.ensures c.horizon.ensures with_near in
    let with_json = adds_rule _ _ _ _ _ c.in_ok-arg-5.ensures c.json.ensures with_horizon in
    let with_names = adds_rule _ _ _ _ _ c.in_ok-arg-6.ensures c.names.ensures with_json in
    let with_explain = adds_rule _ _ _ _ _ c.in_ok-arg-7.ensures c.explain.ensures with_names in
    IfOk-weaker c.arg-8.result _ _
    (λ command adds. let whole = adds_rule _ _ _ _ _ adds c.files.ensures with_explain in (ap (λ (a : App). a.top) whole.0, whole.1)) c.arg-8.ensures
