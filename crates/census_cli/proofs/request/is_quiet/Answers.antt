use Rattle.std.proofs.Common.{refl, codes, subst, sym}
use Rattle.clap.specs.Matches.{found_of}
use Rattle.clap.specs.Walk.{rows_of}
use Rattle.census_cli.specs.Asking.{Uses}
use Rattle.census_cli.specs.Holding.{IsCommand}
use Rattle.census_cli.proofs.Commands.{objects_command, run_command}
use Rattle.census_cli.proofs.Getters.{entered_as}
use Rattle.census_cli.proofs.request.is_quiet.Goals as goal

pub flag-requires : goal.flag-requires
flag-requires c =
    let arm = c.in-Some in
    let rows = rows_of (found_of arm.run'.now) in
    (run_command rows (subst IsCommand (entered_as c.args.matches.now (codes "run") rows (arm.ensures.found.0 refl) arm.ensures.rows) c.requires)).no_progress

pub flag-requires-in-Some-subcommand_matches : goal.flag-requires-in-Some-subcommand_matches
flag-requires-in-Some-subcommand_matches c =
    let arm = c.in-Some-subcommand_matches in
    let rows = rows_of (found_of arm.objects.now) in
    (objects_command rows (subst IsCommand (entered_as c.args.matches.now (codes "objects") rows (arm.ensures.found.0 refl) arm.ensures.rows) c.requires)).no_progress

pub returns-in-Some : goal.returns-in-Some
returns-in-Some c =
    let arm = c.in-Some in
    let rows = rows_of (found_of arm.run'.now) in
    subst (λ o. Uses (codes "no-progress") o c.flag.result) (sym (entered_as c.args.matches.now (codes "run") rows (arm.ensures.found.0 refl) arm.ensures.rows)) c.flag.ensures

pub returns-in-Some-subcommand_matches : goal.returns-in-Some-subcommand_matches
returns-in-Some-subcommand_matches c =
    let arm = c.in-Some-subcommand_matches in
    let rows = rows_of (found_of arm.objects.now) in
    subst (λ o. Uses (codes "no-progress") o c.flag-in-Some-subcommand_matches.result)
    (sym (entered_as c.args.matches.now (codes "objects") rows (arm.ensures.found.0 refl) arm.ensures.rows)) c.flag-in-Some-subcommand_matches.ensures
