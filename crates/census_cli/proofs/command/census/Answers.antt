use Rattle.std.proofs.Common.{ap₂, ◌∙◌}
use Rattle.std.proofs.lemmas.Result.{IfOk-weaker}
use Rattle.clap.specs.Words.{with_subcommand}
use Rattle.census_cli.proofs.command.census.Goals as goal

pub returns : goal.returns
returns c =
    let with_run = c.in_ok-subcommand.ensures.shape c.in_ok-run.ensures.1 ∙ ap₂ with_subcommand c.in_ok-bare.ensures c.in_ok-run.ensures.0 in
    let with_objects = c.in_ok-subcommand-2.ensures.shape c.in_ok-objects.ensures.1 ∙ ap₂ with_subcommand with_run c.in_ok-objects.ensures.0 in
    let with_identify = c.in_ok-subcommand-3.ensures.shape c.in_ok-identify.ensures.1 ∙ ap₂ with_subcommand with_objects c.in_ok-identify.ensures.0 in
    let with_advance = c.in_ok-subcommand-4.ensures.shape c.in_ok-advance.ensures.1 ∙ ap₂ with_subcommand with_identify c.in_ok-advance.ensures.0 in
    let with_draw = c.in_ok-subcommand-5.ensures.shape c.in_ok-draw.ensures.1 ∙ ap₂ with_subcommand with_advance c.in_ok-draw.ensures.0 in
    let with_merge = c.in_ok-subcommand-6.ensures.shape c.in_ok-merge.ensures.1 ∙ ap₂ with_subcommand with_draw c.in_ok-merge.ensures.0 in
    let with_table = c.in_ok-subcommand-7.ensures.shape c.in_ok-table.ensures.1 ∙ ap₂ with_subcommand with_merge c.in_ok-table.ensures.0 in
    let with_page = c.in_ok-subcommand-8.ensures.shape c.in_ok-page.ensures.1 ∙ ap₂ with_subcommand with_table c.in_ok-page.ensures.0 in
    let with_same = c.in_ok-subcommand-9.ensures.shape c.in_ok-same.ensures.1 ∙ ap₂ with_subcommand with_page c.in_ok-same.ensures.0 in
    IfOk-weaker c.subcommand-10.result _ _ (λ r added. added.shape c.in_ok-verify.ensures.1 ∙ ap₂ with_subcommand with_same c.in_ok-verify.ensures.0) c.subcommand-10.ensures
