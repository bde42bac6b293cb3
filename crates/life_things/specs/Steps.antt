-- Up to four steps, in machine integers.
use Rattle.std.specs.Prelude.{List, [], ◌∷◌}
use Rattle.life_growth.specs.Meeting.Sums.{Step}
use Rattle.life_things.specs.Lattice.Short.{IsStride}
use Rattle.life_things.specs.declared.steps.Steps.{Steps}
use Rattle.life_things.specs.declared.steps.Steps.TheVariants.{Zero, One, Two, Three, Four}

abbrev pub list_of : Steps → List Step
list_of Zero = []
list_of (One u) = u ∷ []
list_of (Two u v) = u ∷ v ∷ []
list_of (Three u v w) = u ∷ v ∷ w ∷ []
list_of (Four u v w z) = u ∷ v ∷ w ∷ z ∷ []

-- each step takes time, and goes neither too long nor too far
abbrev pub AreStrides : Steps → Type 0
AreStrides Zero = Unit {0}
AreStrides (One u) = IsStride u
AreStrides (Two u v) = IsStride u × IsStride v
AreStrides (Three u v w) = IsStride u × IsStride v × IsStride w
AreStrides (Four u v w z) = IsStride u × IsStride v × IsStride w × IsStride z
