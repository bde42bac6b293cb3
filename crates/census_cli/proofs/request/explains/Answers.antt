use Rattle.std.proofs.Common.{◌≡◌, List, ℕ, Some, option_map, sym}
use Rattle.clap.specs.Matches.{found_of}
use Rattle.clap.specs.Simple.{subcommand_rows_of}
use Rattle.clap.specs.Walk.{Row, rows_of}
use Rattle.census_cli.proofs.Commands.{explain_of}
use Rattle.census_cli.proofs.request.explains.Goals as goal

pub flag-requires : goal.flag-requires
flag-requires c =
    let rows = rows_of (found_of c.in-Some.command.now) in
    let entered : option_map (λ (p : List ℕ × List Row). p.1) (subcommand_rows_of c.args.matches.now) ≡ Some rows = sym c.in-Some.ensures.rows in
    explain_of (subcommand_rows_of c.args.matches.now) rows entered c.requires
