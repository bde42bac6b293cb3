-- The content that arguments name, one after another.
use Rattle.std.specs.Prelude.{◌≡◌, ℕ, List, [], ◌∷◌, map}
use Rattle.census_folders.specs.Hearing.{Hears}
use Rattle.census_folders.specs.Told as shelf
use Rattle.census_folders.specs.declared.heard.Heard.{Heard}
use Rattle.census_identify.specs.declared.told.Told.{Told}
use Rattle.watched.specs.Streams.{Reader}

-- an argument, the content that was read for it, and the report on that
pub record Hearing : Type 0 where
  pub word : List ℕ
  pub heard : Heard
  pub told : Told

abbrev pub heard_words : List Hearing → List (List ℕ)
heard_words hearings = map (λ h. h.word) hearings

abbrev pub told_words : List Hearing → List Told
told_words hearings = map (λ h. h.told) hearings

-- the content of each was read after that of the one before it
abbrev pub HearsEach : (List ℕ → shelf.Told) → List Hearing → Reader → Reader → Type 0
HearsEach held [] before after = after ≡ before
HearsEach held (h ∷ hs) before after =
    (next : Reader) × Hears held h.word h.heard before next × HearsEach held hs next after
