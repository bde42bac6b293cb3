use Rattle.std.proofs.Common.{rules, ap, codes}
use Rattle.std.proofs.lemmas.Result.{IfOk-weaker}
use Rattle.clap.specs.Simple.{App}
use Rattle.clap.specs.Words.{new_app}
use Rattle.census_cli.proofs.Shapes.{IsBuilt, adds_rule}
use Rattle.census_cli.proofs.command.advance.Goals as goal

pub returns : goal.returns
returns c =
    let bare : IsBuilt c.after_help.result (new_app (codes "advance")) = search (rules, c.new.ensures, c.about.ensures, c.after_help.ensures) in
    let with_generations = adds_rule _ _ _ _ _ c.in_ok-arg.ensures c.generations.ensures bare in
    let with_cells = adds_rule _ _ _ _ _ c.in_ok-arg-2.ensures c.limit.ensures with_generations in
    let with_explain = adds_rule _ _ _ _ _ c.in_ok-arg-3.ensures c.explain.ensures with_cells in
    IfOk-weaker c.arg-4.result _ _
    (λ command adds. let whole = adds_rule _ _ _ _ _ adds c.file.ensures with_explain in (ap (λ (a : App). a.top) whole.0, whole.1)) c.arg-4.ensures
