-- A plane as a value that contracts see: the members in order, and the age.
use Rattle.std.specs.Prelude.{ℕ}
use Rattle.std.specs.Coded.{Coded, coded×, coded_ℕ}
use Rattle.life_model.specs.Coded.{coded_generation}
use Rattle.life_model.specs.Generation.{Generation}

abbrev pub coded_plane : Coded (Generation × ℕ)
coded_plane = coded× coded_generation coded_ℕ
