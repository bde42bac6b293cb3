-- Where the collections of a census come from.
use Rattle.std.specs.Prelude.{◌≡◌, ℕ, Bool, true, false, List, [], ◌∷◌, map}
use Rattle.census_cli.specs.declared.request.Collections.{Collections}
use Rattle.census_folders.specs.Sources.{Asked}
use Rattle.census_folders.specs.declared.loss.OnLoss.{OnLoss}
use Rattle.census_folders.specs.declared.loss.OnLoss.TheVariants.{Stop, Keep}

-- standard input, or folders
pub data Source : Type 0 where
  Input : Source
  Folders : (asked : Asked) → Source

abbrev pub on_loss_of : Bool → OnLoss
on_loss_of true = Keep
on_loss_of false = Stop

-- the folders of words, and how they are read
abbrev pub asked_of : Collections → Asked
asked_of from = record { words = map (λ s. s.now) from.folders.items; below = from.recursive; limit = from.input; on_loss = on_loss_of from.keep_going }

abbrev pub source_by : Asked → List (List ℕ) → Source
source_by asked [] = Input
source_by asked (word ∷ words) = Folders asked

-- Without a word it is standard input.
abbrev pub source_of : Collections → Source
source_of from = source_by (asked_of from) (map (λ s. s.now) from.folders.items)

-- the first thing that can't be read ends the census
abbrev pub StopsAtFirstLoss : Source → Type 0
StopsAtFirstLoss Input = Unit {0}
StopsAtFirstLoss (Folders asked) = asked.on_loss ≡ Stop
