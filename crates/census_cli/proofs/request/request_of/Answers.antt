use Rattle.std.proofs.Common.{refl, codes, subst, sym, lit≤}
use Rattle.clap.specs.Matches.{found_of}
use Rattle.clap.specs.Walk.{rows_of}
use Rattle.census_cli.specs.Holding.{GivesRequest, IsCommand}
use Rattle.census_cli.specs.declared.request.Request.TheVariants as request
use Rattle.census_cli.proofs.Commands.{advance_command, identify_command, objects_command, page_command, run_command, same_command, table_command, verify_command}
use Rattle.census_cli.proofs.Getters.{entered_as, number_fits}
use Rattle.census_cli.proofs.request.request_of.Goals as goal
use Rattle.census_cli.specs.Limits.{generation_limit}

pub number-requires : goal.number-requires
number-requires c =
    let arm = c.in-Some-subcommand_matches-3 in
    let rows = rows_of (found_of arm.advance.now) in
    let has = advance_command rows (subst IsCommand (entered_as c.args.matches.now (codes "advance") rows (arm.ensures.found.0 refl) arm.ensures.rows) c.requires) in
    number_fits 0 generation_limit (codes "generations") rows (lit≤ tt) has.generations

pub limit-requires : goal.limit-requires
limit-requires c =
    let arm = c.in-Some-subcommand_matches-3 in
    let rows = rows_of (found_of arm.advance.now) in
    let has = advance_command rows (subst IsCommand (entered_as c.args.matches.now (codes "advance") rows (arm.ensures.found.0 refl) arm.ensures.rows) c.requires) in
    has.cells

pub returns-in-Some-subcommand_matches-3 : goal.returns-in-Some-subcommand_matches-3
returns-in-Some-subcommand_matches-3 c =
    let arm = c.in-Some-subcommand_matches-3 in
    let rows = rows_of (found_of arm.advance.now) in
    subst (λ o. GivesRequest o (request.Advance c.number.result c.limit.result c.text_if_used.result))
    (sym (entered_as c.args.matches.now (codes "advance") rows (arm.ensures.found.0 refl) arm.ensures.rows))
    (refl, c.number.ensures, c.limit.ensures, c.text_if_used.ensures)

pub run_of-requires : goal.run_of-requires
run_of-requires c =
    let arm = c.in-Some in
    let rows = rows_of (found_of arm.run'.now) in
    run_command rows (subst IsCommand (entered_as c.args.matches.now (codes "run") rows (arm.ensures.found.0 refl) arm.ensures.rows) c.requires)

pub objects_of-requires : goal.objects_of-requires
objects_of-requires c =
    let arm = c.in-Some-subcommand_matches in
    let rows = rows_of (found_of arm.objects.now) in
    objects_command rows (subst IsCommand (entered_as c.args.matches.now (codes "objects") rows (arm.ensures.found.0 refl) arm.ensures.rows) c.requires)

pub identify_of-requires : goal.identify_of-requires
identify_of-requires c =
    let arm = c.in-Some-subcommand_matches-2 in
    let rows = rows_of (found_of arm.identify.now) in
    identify_command rows (subst IsCommand (entered_as c.args.matches.now (codes "identify") rows (arm.ensures.found.0 refl) arm.ensures.rows) c.requires)

pub table_of-requires : goal.table_of-requires
table_of-requires c =
    let arm = c.in-Some-subcommand_matches-6 in
    let rows = rows_of (found_of arm.table.now) in
    table_command rows (subst IsCommand (entered_as c.args.matches.now (codes "table") rows (arm.ensures.found.0 refl) arm.ensures.rows) c.requires)

pub page_of-requires : goal.page_of-requires
page_of-requires c =
    let arm = c.in-Some-subcommand_matches-7 in
    let rows = rows_of (found_of arm.page.now) in
    page_command rows (subst IsCommand (entered_as c.args.matches.now (codes "page") rows (arm.ensures.found.0 refl) arm.ensures.rows) c.requires)

pub same_of-requires : goal.same_of-requires
same_of-requires c =
    let arm = c.in-Some-subcommand_matches-8 in
    let rows = rows_of (found_of arm.same.now) in
    same_command rows (subst IsCommand (entered_as c.args.matches.now (codes "same") rows (arm.ensures.found.0 refl) arm.ensures.rows) c.requires)

pub reports_of-requires-in-Some-subcommand_matches-9 : goal.reports_of-requires-in-Some-subcommand_matches-9
reports_of-requires-in-Some-subcommand_matches-9 c =
    let arm = c.in-Some-subcommand_matches-9 in
    let rows = rows_of (found_of arm.verify.now) in
    (verify_command rows (subst IsCommand (entered_as c.args.matches.now (codes "verify") rows (arm.ensures.found.0 refl) arm.ensures.rows) c.requires)).reports
