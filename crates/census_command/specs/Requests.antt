-- What is done where something is asked for, and what each error says.
use Rattle.std.specs.Prelude.{option_map}
use Rattle.std.specs.Io.KnownBytes.{Appends}
use Rattle.watched.specs.Streams.{Streams}
use Rattle.watched.specs.Watching.{AppendsFront}
use Rattle.census_cli.specs.declared.request.Request.{Request}
use Rattle.census_cli.specs.declared.request.Request.TheVariants.{Census, Advance, Draw}
use Rattle.census_command.specs.Advances.{AdvanceFails, AdvancesBy}
use Rattle.census_errors.specs.Files.{file_of}
use Rattle.census_command.specs.Draws.{DrawFails, DrawsBy}
use Rattle.census_command.specs.Runs.{RunFails, Runs, RunsInPart}
use Rattle.census_folders.specs.Tellings.{Tellings}
use Rattle.census_errors.specs.Sources.{source_of}
use Rattle.census_errors.specs.declared.error.CommandError.{CommandError}
use Rattle.census_errors.specs.declared.error.CommandError.TheVariants as error

-- what is asked for was done
abbrev pub Does : Tellings → Request → Streams → Streams → Type 0
Does shelf (Census census) before after = Runs shelf (source_of census.collections) census.question before after
Does shelf (Advance n limit file) before after =
    AdvancesBy Appends shelf (file_of (option_map (λ s. s.now) file)) n limit before after
Does shelf (Draw code rule) before after = DrawsBy Appends code.now rule.now before after
Does shelf _ before after = ⊥

-- it was done, but only a prefix was written: as much as the writer took
abbrev pub DoesInPart : Tellings → Request → Streams → Streams → Type 0
DoesInPart shelf (Census census) before after = RunsInPart shelf (source_of census.collections) census.question before after
DoesInPart shelf (Advance n limit file) before after =
    AdvancesBy AppendsFront shelf (file_of (option_map (λ s. s.now) file)) n limit before after
DoesInPart shelf (Draw code rule) before after = DrawsBy AppendsFront code.now rule.now before after
DoesInPart shelf _ before after = ⊥

-- it was not done whole, for this error
abbrev pub Fails : CommandError → Tellings → Request → Streams → Streams → Type 0
Fails (error.Run e) shelf (Census census) before after = RunFails e shelf (source_of census.collections) census.question before after
Fails (error.Advance e) shelf (Advance n limit file) before after =
    AdvanceFails e shelf (file_of (option_map (λ s. s.now) file)) n limit before after
Fails (error.Draw e) shelf (Draw code rule) before after = DrawFails e code.now rule.now before after
Fails e shelf request before after = ⊥
