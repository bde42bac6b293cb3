-- Where the cells of an equal set stand.
use Rattle.std.proofs.Common.{◌≡◌, ℕ, ◌≤◌, subst}
use Rattle.std.specs.List.{All}
use Rattle.life_model.specs.Generation.{Generation, cells}
use Rattle.life_cells.specs.Limits.{IsWithin}
use Rattle.life_cells.proofs.Places.{itself_within}
use Rattle.life_ash.specs.Parts.{ash_age_limit}

-- where the cells of an equal set of that age stand
pub placed_at : (a : ℕ) (H G : Generation) → H ≡ G → a ≤ ash_age_limit → All (IsWithin a) (cells H) →
    All (IsWithin ash_age_limit) (cells G)
placed_at a H G same le all = subst (λ S. All (IsWithin ash_age_limit) (cells S)) same (itself_within a ash_age_limit le H all)
