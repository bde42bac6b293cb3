-- Kinds of objects.
use Rattle.std.specs.Prelude.{◌≡◌, ℕ, Bool, List, count_by}
use Rattle.life_model.specs.Cell.{Cell}
use Rattle.life_model.specs.Generation.{Generation}
use Rattle.life_model.specs.Rule.{Rule}
use Rattle.life_model.specs.Recurrence.{AreOneObject, RecursBy}

-- sets that recur and are one object are either all of this kind or none of them is; the sets with some code are such a
-- kind
abbrev pub IsKind : Rule → (Generation → Bool) → Type 0
IsKind R kind =
    (P Q : Generation) (m n : ℕ) (d e : Cell) → RecursBy R P m d → RecursBy R Q n e → AreOneObject R P Q → kind P ≡ kind Q

-- for each kind, both lists have the same number of sets of it
abbrev pub AreAlike : Rule → List Generation → List Generation → Type 0
AreAlike R Ps Qs = (kind : Generation → Bool) → IsKind R kind → count_by kind Ps ≡ count_by kind Qs
