-- Folders that are not read.
use Rattle.std.proofs.Common.{◌≡◌, ℕ, ◌<◌, List, [], ◌∷◌, arith, length, map, refl}
use Rattle.std.specs.Borrow.{Bor}
use Rattle.watched.specs.Streams.{Reader}
use Rattle.census_cli.specs.declared.request.Collections.{Collections}
use Rattle.census_folders.specs.Sources.{Stops}
use Rattle.census_folders.specs.Tellings.{Tellings}
use Rattle.census_folders.specs.declared.fault.SourceFault.{SourceFault}
use Rattle.census_errors.specs.Errors.{run_error_of_source}
use Rattle.census_errors.specs.Sources.{asked_of, source_by, source_of}
use Rattle.census_errors.specs.declared.run_error.RunError.{RunError}
use Rattle.census_command.specs.Starting.{IsUnread}

pub unread : (shelf : Tellings) (from : Collections) (before : Reader) (error : RunError) (fault : SourceFault) → 0 < length from.folders.items
    → error ≡ run_error_of_source fault → Stops shelf (asked_of from) fault → IsUnread shelf (source_of from) before before error
unread shelf from before error fault some is stops = go from.folders.items some
  where
    go : (words : List (Bor (List ℕ))) → 0 < length words → IsUnread shelf (source_by (asked_of from) (map (λ s. s.now) words)) before before error
    go [] some = absurd (omega arith)
    go (word ∷ words) some = (fault, is, stops, refl)
