-- The cores of a track, each before a step, as things.
use Rattle.std.proofs.Common.{◌≡◌, ◌≢◌, ℕ, zero, suc, ◌+◌, ◌-◌, ◌<◌, ◌≤◌, List, [], ◌∷◌, ◌++◌, length, get_or, refl, sym, ap, ◌∙◌, arith}
use Rattle.life_model.specs.Generation.{Generation}
use Rattle.life_growth.specs.Engines.Tracks.{Step, core_along, left_along}
use Rattle.life_growth.specs.Engine.{Way}
use Rattle.life_growth.specs.Things.{Thing, core_thing}
use Rattle.life_growing.specs.Settled.Things.{first_things}
use Rattle.life_tracks.specs.Tracks.{Path, way_of}

core_along_step : (P : Generation) (steps : List Step) (d : Step) (m : ℕ) → m < length steps →
    core_along P steps (suc m) ≡ (get_or steps m d).0
core_along_step P [] d m h = absurd (omega arith)
core_along_step P (s ∷ steps) d zero h = refl
core_along_step P (s ∷ steps) d (suc m) h = core_along_step s.0 steps d m (omega arith)

left_along_step : (steps : List Step) (d : Step) (m : ℕ) → m < length steps → left_along steps m ≡ (get_or steps m d).1
left_along_step [] d m h = absurd (omega arith)
left_along_step (s ∷ steps) d zero h = refl
left_along_step (s ∷ steps) d (suc m) h = left_along_step steps d m (omega arith)

-- a later core is that of the step before it, and what leaves in a step is what that step lists
module _ (path : Path) (steps : List Step) (same : steps ≡ path.steps) (s : Step) where
  pub core_of_step : (n : ℕ) → n ≢ 0 → n ≤ (way_of path).period → s ≡ get_or steps (n - 1) s → s.0 ≡ (way_of path).core n
  core_of_step n some le is =
      let e : suc (n - 1) ≡ n = omega (arith, some) in
      let inside : n - 1 < length path.steps = omega (arith, some) in
      ap (λ (t : Step). t.0) (is ∙ ap (λ ss. get_or ss (n - 1) s) same)
      ∙ sym (core_along_step path.start path.steps s (n - 1) inside) ∙ ap (core_along path.start path.steps) e

  pub left_of_step : (n : ℕ) → n < (way_of path).period → s ≡ get_or steps n s → s.1 ≡ (way_of path).left n
  left_of_step n h is =
      ap (λ (t : Step). t.1) (is ∙ ap (λ ss. get_or ss n s) same) ∙ sym (left_along_step path.steps s n h)

-- a core as a thing
pub same_core : (way : Way) (n : ℕ) (it : Thing) → it.time ≡ n → it.set ≡ way.core n →
    it.ways ≡ (way.period, way.displacement) ∷ [] → it ≡ core_thing way n
same_core way n it time set ways i = record { time = time i; set = set i; ways = ways i }

-- one more thing
pub first_more : (f : ℕ → Thing) (items more : List Thing) (it : Thing) (n : ℕ) → items ≡ first_things f n →
    more ≡ items ++ it ∷ [] → it ≡ f n → more ≡ first_things f (n + 1)
first_more f items more it n so_far is last =
    is ∙ ap (λ xs. xs ++ it ∷ []) so_far ∙ ap (λ x. first_things f n ++ x ∷ []) last
    ∙ ap (first_things f) (let e : suc n ≡ n + 1 = omega arith in e)
