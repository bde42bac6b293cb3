-- The cores and what left, step by step along a track.
use Rattle.std.proofs.Common.{◌≡◌, ℕ, zero, suc, ◌-◌, ◌<◌, ◌≤◌, List, [], ◌∷◌, length, get_or, refl, sym, ap, ◌∙◌, arith}
use Rattle.std.proofs.lemmas.List.{get_or_default}
use Rattle.life_model.specs.Generation.{Generation, empty}
use Rattle.life_growth.specs.Engines.Tracks.{Step, core_along, left_along}
use Rattle.life_tracks.specs.Lines.{core_of}
use Rattle.life_tracks.specs.Readings.{IsReadOff, step_at}
use Rattle.life_tracks.specs.Tracks.{Path}

core_at_step : (P : Generation) (steps : List Step) (m : ℕ) → m < length steps →
    core_along P steps (suc m) ≡ (step_at steps m).0
core_at_step P [] m h = absurd (omega arith)
core_at_step P (s ∷ steps) zero h = refl
core_at_step P (s ∷ steps) (suc m) h = core_at_step s.0 steps m (omega arith)

pub left_at_step : (steps : List Step) (m : ℕ) → m < length steps → left_along steps m ≡ (step_at steps m).1
left_at_step [] m h = absurd (omega arith)
left_at_step (s ∷ steps) zero h = refl
left_at_step (s ∷ steps) (suc m) h = left_at_step steps m (omega arith)

module _ (classes : ℕ → List Generation) (parents : ℕ → List ℕ) (n k : ℕ) (path : Path)
    (read : IsReadOff classes parents n k path) where
  pub core_on_line : (m : ℕ) → m ≤ n → core_along path.start path.steps m ≡ core_of classes parents n k m
  core_on_line zero h = read.start
  core_on_line (suc m) h =
      let long = read.steps.count in
      core_at_step path.start path.steps m (omega arith) ∙ read.steps.core m (omega arith)

-- the end of the steps is the last step's core
pub core_at_last : (P : Generation) (steps : List Step) (s : Step) → (length steps ≡ 0 → ⊥) →
    s ≡ get_or steps (length steps - 1) s → s.0 ≡ core_along P steps (length steps)
core_at_last P steps s some is =
    let m = length steps - 1 in
    let e : suc (length steps - 1) ≡ length steps = omega (arith, some) in
    let inside : length steps - 1 < length steps = omega (arith, some) in
    ap (λ (t : Step). t.0) (is ∙ get_or_default steps m s (empty, empty) inside) ∙ sym (core_at_step P steps m inside)
    ∙ ap (core_along P steps) e
