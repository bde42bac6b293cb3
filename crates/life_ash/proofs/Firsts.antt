-- Where the classes of a set stand.
use Rattle.std.proofs.Common.{◌≡◌, ℕ, ◌≤◌, List, get_or, sym, ap, ◌∙◌}
use Rattle.std.specs.List.{All}
use Rattle.std.proofs.lemmas.List.Elements.{Contains-get_or}
use Rattle.life_model.specs.Rule.{Rule}
use Rattle.life_model.specs.Generation.{Generation, cells, contains}
use Rattle.life_cells.specs.Limits.{IsWithin}
use Rattle.life_objects.specs.Union.{union_of}
use Rattle.life_objects.proofs.Members.{in_list_now}
use Rattle.life_objects.proofs.DecidedLemmas.Kept.{Contains-map}
use Rattle.life_classes.specs.Tracking.{first_sets}
use Rattle.life_classes.specs.declared.class.Class.{Class}
use Rattle.life_cells.proofs.Places.{subset_within}

-- the classes of a set stand where it may
pub firsts_within : (R : Rule) (a n : ℕ) (G : Generation) (cs : List Class) → union_of (first_sets cs) ≡ G → a ≤ n →
    All (IsWithin a) (cells G) → All (λ c. All (IsWithin n) (cells c.first)) cs
firsts_within R a n G cs whole le placed k d h =
    subset_within a n le (get_or cs k d).first G
    (λ c m. ap (λ H. contains H c) (sym whole)
    ∙ in_list_now R (first_sets cs) (get_or cs k d).first c
    (Contains-map (λ c. c.first) cs (get_or cs k d) (Contains-get_or cs k d h)) m) placed
