-- The things of what leaves a track, as they are placed.
use Rattle.std.proofs.Common.{◌≡◌, ℕ, suc, ◌+◌, ◌<◌, List, [], ◌∷◌, map, length, get_or, refl, ap, ◌∙◌, arith}
use Rattle.std.proofs.lemmas.List.{get_or_default}
use Rattle.life_model.specs.Cell.{Cell, origin}
use Rattle.life_model.specs.Generation.{Generation}
use Rattle.life_model.specs.Symmetry.{translate_of}
use Rattle.life_model.proofs.Moves.{moved-origin}
use Rattle.life_growth.specs.Engine.{Way}
use Rattle.life_growth.specs.Things.{Thing, a_period_later, left_once, left_thing}
use Rattle.life_growing.specs.Settled.Settling.{Settling}
use Rattle.life_growing.specs.Settled.Things.{placed, things_of}
use Rattle.life_growing.specs.Emissions.{nothing_left, things_left}

map_alike : {X Y : Type 0} (f g : X → Y) → ((x : X) → f x ≡ g x) → (xs : List X) → map f xs ≡ map g xs
map_alike f g h xs i = map (λ x. h x i) xs

-- a thing of these
abbrev thing : ℕ → Generation → List (ℕ × Cell) → Thing
thing time set ways = record { time = time; set = set; ways = ways }

-- the things of what leaves in a step
pub things_at : (lefts : List Settling) (s : Settling) (n : ℕ) → n < length lefts → s ≡ get_or lefts n s →
    things_of s ≡ things_left lefts n
things_at lefts s n h is = ap things_of (is ∙ get_or_default lefts n s nothing_left h)

module _ (n time : ℕ) where
  pub placed_once : time ≡ suc n → (its : List Thing) → map (placed time origin []) its ≡ map (left_once n) its
  placed_once e its =
      map_alike (placed time origin []) (left_once n)
      (λ it i. thing (e i + it.time) (moved-origin it.set i) it.ways) its

  module _ (way : Way) (v : ℕ × Cell) (is : v ≡ (way.period, way.displacement)) where
    pub placed_left : time ≡ suc n → (its : List Thing) →
        map (placed time origin (v ∷ [])) its ≡ map (left_thing way n) its
    placed_left e its =
        map_alike (placed time origin (v ∷ [])) (left_thing way n)
        (λ it i. thing (e i + it.time) (moved-origin it.set i) (is i ∷ it.ways)) its

    pub placed_later : time ≡ suc n + v.0 → (its : List Thing) →
        map (placed time v.1 (v ∷ [])) its ≡ map (a_period_later way) (map (left_thing way n) its)
    placed_later e [] = refl
    placed_later e (it ∷ its) =
        let t : time + it.time ≡ (suc n + it.time) + v.0 = omega (arith, e) in
        let here : placed time v.1 (v ∷ []) it ≡ a_period_later way (left_thing way n it) =
        (λ i. thing ((t ∙ ap (λ (w : ℕ × Cell). (suc n + it.time) + w.0) is) i) (translate_of it.set (is i).1) (is i ∷ it.ways)) in
        (λ i. here i ∷ placed_later e its i)
