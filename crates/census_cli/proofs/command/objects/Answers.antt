use Rattle.std.proofs.Common.{rules, ap, codes}
use Rattle.std.proofs.lemmas.Result.{IfOk-weaker}
use Rattle.clap.specs.Simple.{App}
use Rattle.clap.specs.Words.{new_app}
use Rattle.census_cli.proofs.Shapes.{IsBuilt, adds_rule}
use Rattle.census_cli.proofs.command.objects.Goals as goal

pub returns : goal.returns
returns c =
    let bare : IsBuilt c.after_help.result (new_app (codes "objects")) = search (rules, c.new.ensures, c.about.ensures, c.after_help.ensures) in
    let with_search = adds_rule _ _ _ _ _ c.in_ok-arg.ensures c.search.ensures bare in
    let with_workers = adds_rule _ _ _ _ _ c.in_ok-arg-2.ensures c.workers.ensures with_search in
    let with_cells = adds_rule _ _ _ _ _ c.in_ok-arg-3.ensures c.cells.ensures with_workers in
    let with_near = adds_rule _ _ _ _ _ c.in_ok-arg-4.ensures c.near.ensures with_cells in
    let with_horizon = adds_rule _ _ _ _ _ c.in_ok-arg-5.ensures c.horizon.ensures with_near in
    let with_input = adds_rule _ _ _ _ _ c.in_ok-arg-6.ensures c.input.ensures with_horizon in
    let with_recursive = adds_rule _ _ _ _ _ c.in_ok-arg-7.ensures c.recursive.ensures with_input in
    let with_keep_going = adds_rule _ _ _ _ _ c.in_ok-arg-8.ensures c.keep_going.ensures with_recursive in
    let with_explain = adds_rule _ _ _ _ _ c.in_ok-arg-9.ensures c.explain.ensures with_keep_going in
    let with_no_progress = adds_rule _ _ _ _ _ c.in_ok-arg-10.ensures c.no_progress.ensures with_explain in
    IfOk-weaker c.arg-11.result _ _
    (λ command adds. let whole = adds_rule _ _ _ _ _ adds c.folder.ensures with_no_progress in (ap (λ (a : App). a.top) whole.0, whole.1)) c.arg-11.ensures
