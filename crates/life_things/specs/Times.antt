-- The numbers that divide the times of all steps.
use Rattle.std.specs.Prelude.{List, [], ◌∷◌, ℕ, unsigned_abs}
use Rattle.std.specs.Int.{◌∣◌}
use Rattle.life_growth.specs.Meeting.Sums.{Step}

abbrev pub DividesTimes : ℕ → List Step → Type 0
DividesTimes g [] = Unit {0}
DividesTimes g (u ∷ us) = (g ∣ unsigned_abs u.0) × DividesTimes g us
