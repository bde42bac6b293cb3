-- Where the cells along a track of a film are.
use Rattle.std.proofs.Common.{◌≡◌, ℕ, suc, ◌+◌, ◌-◌, ◌<◌, ◌≤◌, List, sym, ap, ◌∙◌, arith}
use Rattle.std.specs.List.{All, Contains}
use Rattle.life_model.specs.Evolution.{generation, next}
use Rattle.life_model.specs.Generation.{Generation, cells, contains}
use Rattle.life_model.specs.Rule.{Rule}
use Rattle.life_model.proofs.Recurrences.{generation-next, generation-zero}
use Rattle.life_cells.proofs.Places.{generation_within, subset_within}
use Rattle.life_cells.specs.Limits.{IsWithin}
use Rattle.life_objects.specs.Union.{IsSubsetOf}
use Rattle.life_objects.proofs.Members.{in_list_now}
use Rattle.life_objects.proofs.Unions.{in_second}
use Rattle.life_growth.specs.Unsplit.{AreClasses}
use Rattle.life_tracks.specs.declared.frames.film.Film.{Film}
use Rattle.life_tracks.specs.Frames.Frames.{IsFilm, classes_at}
use Rattle.life_tracks.specs.Films.{IsTrackOf}
use Rattle.life_tracks.specs.Tracks.{Path, way_of}
use Rattle.life_growing.specs.Places.{AreWithinAlong}

class_within : (R : Rule) (b : ℕ) (G : Generation) (Ps : List Generation) → AreClasses R b G Ps → (P : Generation) →
    Contains Ps P → IsSubsetOf P G
class_within R b G Ps classes P one c h =
    ap (λ H. contains H c) (sym classes.together) ∙ in_list_now R Ps P c one h

next_generation : (R : Rule) (P : Generation) → generation R P 1 ≡ next R P
next_generation R P =
    ap (generation R P) (let e : 1 ≡ 0 + 1 = omega arith in e) ∙ generation-next R P 0 ∙ ap (next R) (generation-zero R P)

module _ (R : Rule) (G : Generation) (T : ℕ) (film : Film) (is : IsFilm R G T film) (path : Path)
    (track : IsTrackOf R T film path) (age : ℕ) (young : All (IsWithin age) (cells G)) where
  core_placed : (n : ℕ) → n ≤ (way_of path).period → All (IsWithin (age + n)) (cells ((way_of path).core n))
  core_placed n h =
      let short = track.back.within in
      subset_within (age + n) (age + n) (omega arith) ((way_of path).core n) (generation R G n)
      (class_within R (T - n) (generation R G n) (classes_at film n) (is.classes n (omega arith)) ((way_of path).core n)
      (track.cores n h))
      (generation_within R age G young n)

  left_placed : (n : ℕ) → n < (way_of path).period → All (IsWithin (age + suc n)) (cells ((way_of path).left n))
  left_placed n h =
      let way = way_of path in
      subset_within ((age + n) + 1) (age + suc n) (omega arith) (way.left n) (generation R (way.core n) 1)
      (λ c one. ap (λ H. contains H c) (next_generation R (way.core n) ∙ sym (track.back.together n h))
      ∙ in_second (way.core (suc n)) (way.left n) c one)
      (generation_within R (age + n) (way.core n) (core_placed n (omega arith)) 1)

  pub placed_along : AreWithinAlong age (way_of path)
  placed_along = record { cores = core_placed; lefts = left_placed }
