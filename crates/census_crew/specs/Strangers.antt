-- Results that are strangers.
use Rattle.std.specs.Prelude.{◌≡◌, ℕ, ◌+◌, ◌<◌, ◌^◌, ◌⊎◌, List, [], ◌∷◌}
use Rattle.census_bundle.specs.declared.bundle.Folder.{Folder}
use Rattle.census_book.specs.Collecting.{IsResultOf}
use Rattle.census_book.specs.Work.{Work}
use Rattle.life_answer.specs.declared.question.Question.{Question}

-- a count of strangers grows by one if the result is one
abbrev pub CountsStranger : List Folder → Question → Work → ℕ → ℕ → Type 0
CountsStranger b question w old new = (IsResultOf b question w × (new ≡ old)) ⊎ ((IsResultOf b question w → ⊥) × (new ≡ old + 1))

-- a count of strangers grows by one if the result is one and the count has room to grow
abbrev pub NotesStranger : List Folder → Question → Work → ℕ → ℕ → Type 0
NotesStranger b question w old new = (IsResultOf b question w × (new ≡ old)) ⊎ ((IsResultOf b question w → ⊥) × (old + 1 < 2 ^ 64 → new ≡ old + 1))

-- n of the results are strangers
abbrev pub HasStrangers : List Folder → Question → List Work → ℕ → Type 0
HasStrangers b question [] n = n ≡ 0
HasStrangers b question (w ∷ ws) n = (m : ℕ) × CountsStranger b question w m n × HasStrangers b question ws m
