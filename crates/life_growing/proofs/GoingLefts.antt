-- What becomes of what leaves a track.
use Rattle.std.proofs.Common.{◌≡◌, ℕ, suc, ◌+◌, None, IfNone, Option, subst, arith}
use Rattle.std.specs.List.{All}
use Rattle.life_model.specs.Generation.{Generation, cells}
use Rattle.life_cells.specs.Limits.{IsWithin}

-- what holds if there is nothing
pub of_none : {X : Type 0} {o : Option X} (P : Type 0) → o ≡ None → IfNone o P → P
of_none P e h = subst (λ q. IfNone q P) e h

pub within_then : (age n : ℕ) (H G : Generation) → G ≡ H → All (IsWithin (age + suc n)) (cells G) →
    All (IsWithin ((age + n) + 1)) (cells H)
within_then age n H G same all =
    subst (λ S. All (IsWithin ((age + n) + 1)) (cells S)) same
    (subst (λ k. All (IsWithin k) (cells G)) (let e : age + suc n ≡ (age + n) + 1 = omega arith in e) all)
