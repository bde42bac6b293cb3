-- A search that decides whether what leaves an engine ever meets it again.
use Rattle.std.specs.Prelude.{ℕ, suc, Bool, ◌&&◌, List, [], ◌∷◌, map}
use Rattle.life_model.specs.Rule.{Rule}
use Rattle.life_model.specs.Generation.{Generation}
use Rattle.life_objects.specs.Decided.Tests.{each_below}
use Rattle.life_growth.specs.Engine.{Way}
use Rattle.life_growth.specs.Things.{Thing, a_period_later, core_thing, left_once, left_thing}
use Rattle.life_growth.specs.Meeting.Listed.{settled_things}
use Rattle.life_growth.specs.Meeting.Meeting.{all_never_meet}

-- the listed things of what leaves at a step, once; again after each period; and again after each period but the first
abbrev pub things_once : Rule → ℕ → Way → (ℕ → List Generation) → ℕ → List Thing
things_once R b way ashes n = map (left_once n) (settled_things R b (way.left n) (ashes n))

abbrev pub things_left : Rule → ℕ → Way → (ℕ → List Generation) → ℕ → List Thing
things_left R b way ashes n = map (left_thing way n) (settled_things R b (way.left n) (ashes n))

abbrev pub things_later : Rule → ℕ → Way → (ℕ → List Generation) → ℕ → List Thing
things_later R b way ashes n = map (a_period_later way) (things_left R b way ashes n)

-- true where what leaves at each step never meets a core, nor what leaves later in the period or in a later one
unfoldable pub never_meet_again : Rule → ℕ → Way → (ℕ → List Generation) → Bool
never_meet_again R b way ashes =
    each_below (λ n.
    each_below (λ k. all_never_meet (things_once R b way ashes n) (core_thing way k ∷ [])) way.period) way.period
    && (each_below (λ k.
    each_below (λ n. all_never_meet (things_once R b way ashes n) (things_left R b way ashes k)) k) way.period
    && each_below (λ n.
    each_below (λ k. all_never_meet (things_once R b way ashes n) (things_later R b way ashes k)) (suc n)) way.period)
