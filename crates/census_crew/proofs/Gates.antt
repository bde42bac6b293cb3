-- What a gate was told, one thing after another.
use Rattle.std.proofs.Common.{◌≡◌, List, ◌++◌, Option, None, Some, ap, ◌∙◌}
use Rattle.std.proofs.lemmas.List.{append_assoc}
use Rattle.census_crew.specs.Gates.{Hears, News}

pub hears_both : (old mid new : Option (List News)) (first second : List News) → Hears old mid first → Hears mid new second → Hears old new (first ++ second)
hears_both None mid new first second h k = tt
hears_both (Some heard) None new first second h k = absurd cc
hears_both (Some heard) (Some later) new first second h k = cc (h, k, append_assoc heard first second)
