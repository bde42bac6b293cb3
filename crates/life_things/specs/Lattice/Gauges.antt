-- Gauges: steps whose products with other steps distinguish these.
use Rattle.std.specs.Prelude.{pos, neg_ℤ, ◌≤ℤ◌, List, [], ◌∷◌}
use Rattle.life_growth.specs.Meeting.Sums.{Step}
use Rattle.life_growth.specs.Relations.Relations.{product}

-- the product with these gauges is 0 for the step itself; for another step it is the deviation from the step's
-- direction along each axis
abbrev pub across_gauge : Step → Step
across_gauge u = (neg_ℤ u.1.0, (u.0, pos 0))

abbrev pub along_gauge : Step → Step
along_gauge u = (neg_ℤ u.1.1, (pos 0, u.0))

abbrev pub turned_gauge : Step → Step
turned_gauge u = (neg_ℤ u.0, (neg_ℤ u.1.0, neg_ℤ u.1.1))

-- no step leads back along the gauge
abbrev pub NoneFalls : Step → List Step → Type 0
NoneFalls g [] = Unit {0}
NoneFalls g (u ∷ us) = (pos 0 ≤ℤ product g u) × NoneFalls g us
