use Rattle.std.proofs.Common.{◌≡◌, ◌∙◌, true, map, refl, ap, subst, sym}
use Rattle.std.specs.Prelude.{ℕ, List, Option}
use Rattle.std.proofs.lemmas.Result.{MatchResult-weaker}
use Rattle.clap.specs.Faults.{fault_of, is_simple_and_free}
use Rattle.clap.specs.Simple.{App, is_simple, subcommand_of}
use Rattle.clap.specs.Walk.{Row}
use Rattle.census_cli.specs.Holding.{GivesAsked, IsCommand, RefusesCommand}
use Rattle.census_cli.specs.CommandLine.{census_app}
use Rattle.census_cli.proofs.Commands.{is_command}
use Rattle.census_cli.proofs.Told.{refuses, refuses_matched}
use Rattle.census_cli.specs.declared.fault.WordsFault.{WordsFault}
use Rattle.census_cli.specs.declared.request.Asked.{Asked}
use Rattle.census_cli.proofs.request.read_words.Goals as goal

simple : is_simple census_app ≡ true
simple = refl

free : is_simple_and_free census_app ≡ true
free = refl

pub asked_of-requires : goal.asked_of-requires
asked_of-requires c =
    let app = c.in_ok-command.ensures in
    let words = map (λ s. s.now) c.args.words.now in
    let matched = ap (λ (a : App). fault_of a words) (sym app) ∙ c.in-Ok.ensures.kinds (ap is_simple_and_free app ∙ free) in
    let entered = (c.in-Ok.ensures.matches (ap is_simple app ∙ simple)).1 ∙ ap (λ (a : App). subcommand_of a words) app in
    subst IsCommand (sym entered) (is_command words matched)

pub returns-in-Ok : goal.returns-in-Ok
returns-in-Ok c =
    let app = c.in_ok-command.ensures in
    let words = map (λ s. s.now) c.args.words.now in
    let matched = ap (λ (a : App). fault_of a words) (sym app) ∙ c.in-Ok.ensures.kinds (ap is_simple_and_free app ∙ free) in
    let entered = (c.in-Ok.ensures.matches (ap is_simple app ∙ simple)).1 ∙ ap (λ (a : App). subcommand_of a words) app in
    MatchResult-weaker c.asked_of.result c.asked_of.ensures
    (λ (asked : Asked) gives. let all = subst (λ (o : Option (List ℕ × List Row)). GivesAsked o asked) entered gives in ((matched, all.0), all.1, all.2))
    (λ (fault : WordsFault) h. refuses_matched words fault matched (subst (λ (o : Option (List ℕ × List Row)). RefusesCommand o fault) entered h))

pub returns-in-Err : goal.returns-in-Err
returns-in-Err c =
    let app = c.in_ok-command.ensures in
    let words = map (λ s. s.now) c.args.words.now in
    let fails = c.in-Err.ensures.kinds (ap is_simple_and_free app ∙ free) in
    refuses _ words c.in-Err.error c.fault_of.result app c.fault_of.ensures fails
