-- The news that a gate hears of runs.
use Rattle.std.specs.Prelude.{◌≡◌, ℕ, ◌-◌, ◌^◌, List, [], ◌∷◌, ◌++◌, Option, None, Some, min}
use Rattle.census_bundle.specs.declared.bundle.Folder.{Folder}
use Rattle.census_format.specs.Lines.{pattern_count}

-- a run of `patterns` patterns is about to begin, or a run has ended
pub data News : Type 0 where
  Begun : (patterns : ℕ) → News
  Over : News

-- The news that a gate has heard, in order, if it keeps them. A gate that does has heard this since.
abbrev pub Hears : Option (List News) → Option (List News) → List News → Type 0
Hears None new news = Unit {0}
Hears (Some heard) new news = new ≡ Some (heard ++ news)

-- the number of patterns in the bundle, as far as 64 bits go
abbrev pub told_count : List Folder → ℕ
told_count b = min (pattern_count b) (2 ^ 64 - 1)

-- the news that a gate hears of a run of the bundle: before it, the number of patterns, and after it, that it has
-- ended
abbrev pub news_of : List Folder → List News
news_of b = Begun (told_count b) ∷ Over ∷ []
