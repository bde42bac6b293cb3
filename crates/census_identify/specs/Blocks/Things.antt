-- The facts about a pattern.
use Rattle.std.specs.Prelude.{ℕ, ℤ, Option, Some, None, List, [], ◌∷◌, ◌++◌, codes}
use Rattle.life_answer.specs.declared.finding.Outcome.{Outcome}
use Rattle.life_answer.specs.declared.finding.Outcome.TheVariants.{Ash, Grows, Large, Recurs, Unresolved}
use Rattle.life_answer.specs.declared.part.Part.{Part}
use Rattle.life_answer.specs.Parts.{objects_in}
use Rattle.census_facts.specs.Facts.{Thing, thing}
use Rattle.census_facts.specs.Names.{Entry, name_in}
use Rattle.census_facts.specs.Facts as told
use Rattle.census_identify.specs.declared.blocks.known.Known.{Known}
use Rattle.census_identify.specs.declared.blocks.whole.Whole.{Whole}

-- the file that it is from, where it is from one
abbrev pub file_things : Option (List ℕ) → List Thing
file_things None = []
file_things (Some file) = thing (codes "file") (told.text file) ∷ []

-- `file`, and `rule`, `population` and `box` of generation 0: its rule, its number of cells, and its width and height
abbrev pub head_things : Option (List ℕ) → List ℕ → ℕ → ℕ × ℕ → List Thing
head_things file rule population size =
    file_things file
    ++ thing (codes "rule") (told.text rule)
    ∷ thing (codes "population") (told.number population)
    ∷ thing (codes "box") (told.size size.0 size.1)
    ∷ []

-- the name of an object, where it has one
abbrev pub name_things : Option (List ℕ) → List Thing
name_things None = []
name_things (Some name) = thing (codes "name") (told.text name) ∷ []

-- `apgcode` of a pattern that settles, and `name`, where it has one
abbrev pub code_things : List Entry → List ℕ → List Thing
code_things names code = thing (codes "apgcode") (told.text code) ∷ name_things (name_in names code)

-- `onset`, `period`, `displacement` and `apgcode` of a pattern that settles, and `name`, where its code has one
abbrev pub settled_things : List Entry → ℕ → ℕ → ℤ → ℤ → List ℕ → List Thing
settled_things names onset period dx dy code =
    thing (codes "onset") (told.number onset)
    ∷ thing (codes "period") (told.number period)
    ∷ thing (codes "displacement") (told.moves dx dy)
    ∷ code_things names code

-- `period` and `displacement` of a pattern that recurs as a whole
abbrev pub whole_things : Option Whole → List Thing
whole_things None = []
whole_things (Some whole) =
    thing (codes "period") (told.number whole.period)
    ∷ thing (codes "displacement") (told.moves whole.displacement.0 whole.displacement.1)
    ∷ []

-- `objects`, the number of parts that a pattern has become, and these parts
abbrev pub parts_things : List Part → List Thing
parts_things list = thing (codes "objects") (told.number (objects_in list)) ∷ thing (codes "parts") (told.parts list) ∷ []

-- `onset` of the ash of a pattern that has fallen apart, its period and displacement as a whole, and its parts
abbrev pub apart_things : ℕ → Option Whole → List Part → List Thing
apart_things onset whole list = thing (codes "onset") (told.number onset) ∷ (whole_things whole ++ parts_things list)

-- the facts of an outcome: `engines` of a pattern that grows; `large`, the first generation that has more cells than the limit;
-- `unresolved`, the bound, where it neither recurs nor has fallen apart, and isn't found to grow
abbrev pub outcome_things : List Entry → ℕ → Option Whole → Outcome → List Thing
outcome_things names bound whole (Recurs onset period dx dy code) = settled_things names onset period dx dy code
outcome_things names bound whole (Ash onset list) = apart_things onset whole list
outcome_things names bound whole (Grows list) = thing (codes "engines") (told.engines list) ∷ []
outcome_things names bound whole (Large generation) = thing (codes "large") (told.number generation) ∷ []
outcome_things names bound whole Unresolved = thing (codes "unresolved") (told.number bound) ∷ []

-- the facts known within the bound
abbrev pub known_things : List Entry → ℕ → Known → List Thing
known_things names bound known = outcome_things names bound known.whole known.outcome
