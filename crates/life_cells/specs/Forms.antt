-- The three forms of a rule text, as sequences of parts.
use Rattle.std.specs.Prelude.{◌≡◌, ℕ, true, List, [], ◌∷◌, ◌++◌, codes, ◌⊎◌}
use Rattle.std.specs.List.{list_all}
use Rattle.texts.specs.Bytes.{is_in}
use Rattle.life_cells.specs.Rules.{is_count}

abbrev pub IsDigits : List ℕ → Type 0
IsDigits text = list_all is_count text ≡ true

-- a first letter, digits, `/` or nothing, a second letter, digits
pub record IsLettered (first second text one other : List ℕ) : Type 0 where
  pub letter : ℕ
  pub slash : List ℕ
  pub next : ℕ
  pub first_is : is_in first letter ≡ true
  pub second_is : is_in second next ≡ true
  pub slash_is : (slash ≡ []) ⊎ (slash ≡ codes "/")
  pub whole : text ≡ letter ∷ (one ++ (slash ++ next ∷ other))
  pub digits : IsDigits one
  pub others : IsDigits other

-- digits, `/`, digits
pub record IsSlashed (text one other : List ℕ) : Type 0 where
  pub whole : text ≡ one ++ (codes "/" ++ other)
  pub digits : IsDigits one
  pub others : IsDigits other

-- the text has one of the three forms, with these birth and survival digits
abbrev pub HasForm : List ℕ → List ℕ → List ℕ → Type 0
HasForm text birth survival = IsLettered (codes "Bb") (codes "Ss") text birth survival ⊎ (IsLettered (codes "Ss") (codes "Bb") text survival birth ⊎ IsSlashed text survival birth)
