-- What an island that comes back nowhere is no part of.
use Rattle.std.proofs.Common.{◌≡◌, ℕ, ◌+◌, ◌*◌, ◌/◌, ◌<◌, ◌≤◌, true, List, inl, inr, ap, subst, ◌∙◌, arith}
use Rattle.life_model.specs.Cell.{Cell, plus}
use Rattle.life_model.specs.Evolution.{generation}
use Rattle.life_model.specs.Generation.{Generation, contains}
use Rattle.life_model.specs.Rule.{Rule}
use Rattle.life_model.specs.Symmetry.{translate_of}
use Rattle.life_model.proofs.Cells.{plus-opposite}
use Rattle.life_model.proofs.Symmetries.{contains-moved}
use Rattle.life_objects.specs.Ash.{IsAsh}
use Rattle.life_objects.specs.Drift.{multiple_of}
use Rattle.life_objects.specs.Union.{IsSubsetOf}
use Rattle.life_objects.proofs.Lists.{head_or_later}
use Rattle.life_growth.specs.Engine.{FallsApart, IsEngineWithin}
use Rattle.life_growth.specs.Growth.{IsGrowth}
use Rattle.life_growth.specs.Onward.{endless}
use Rattle.life_growth.proofs.Endless.{core_first, core_times, goes_on}
use Rattle.life_growth.proofs.Lasting.{core_part}
use Rattle.life_growth.proofs.OneGrowth.{IsPart-growth, cell_of, engine_of}
use Rattle.life_growth.proofs.Parts.{IsPart, part_later, part_within, part_within_later}
use Rattle.life_strays.specs.Strays.{ComesBackNowhere, IsIsland, IsStray, LeavesStrays}
use Rattle.life_strays.proofs.Belonging.{heirs_within, island_within, no_faster}
use Rattle.life_strays.proofs.Lacking.{gone_lacks, lacks_no_ash, no_ash_part}
use Rattle.life_strays.proofs.Windows.{late_multiple}

module _ (R : Rule) where
  module _ (G P : Generation) (part : IsPart R P G) where
    -- what recurs, moved, brings back its islands
    comes_back : (b m : ℕ) (J : Generation) (d c : Cell) → IsSubsetOf J P → contains J c ≡ true → b < 2 * m → m ≤ b →
        IsSubsetOf (translate_of P d) (generation R P m) → ComesBackNowhere R b b G J → ⊥
    comes_back b m J d c inside h late within again gone =
        gone m late within d (no_faster R P m d c again (inside c h))
        (λ x k. part_within_later R P G part m (plus x d)
        (again (plus x d) (contains-moved P d (plus x d) ∙ ap (contains P) (plus-opposite x d) ∙ inside x k)))

  module _ (b : ℕ) (G : Generation) where
    pub no_ash : (parts : List Generation) (J : Generation) → IsIsland R G J → ComesBackNowhere R b b G J →
        IsAsh R b G parts → ⊥
    no_ash parts J island gone ash =
        lacks_no_ash R b (b / 2) b G parts J (late_multiple b) island (gone_lacks R b G J gone) ash

    module _ (strays : LeavesStrays R b G) where
      abbrev start : IsStray R b b G strays.first
      start = strays.start

      abbrev J : Generation
      J = strays.first.set

      abbrev c : Cell
      c = start.island.some.0

      in_J : contains J c ≡ true
      in_J = start.island.some.1

      no_engine_part : (E : Generation) → IsPart R E G → contains E c ≡ true → IsEngineWithin R b E → ⊥
      no_engine_part E part k engine =
          let way = engine.0 in
          let is = engine.1 in
          let many = late_multiple b way.period is.later is.within in
          let m = many.times * way.period in
          let core = core_part R b m E way is in
          let again : (endless way).core m ≡ translate_of E (multiple_of many.times way.displacement) =
          ap (endless way).core (let e : m ≡ 0 + many.times * way.period = omega arith in e)
          ∙ core_times R b (endless way) (goes_on R b E way is) 0 many.times
          ∙ ap (λ H. translate_of H (multiple_of many.times way.displacement))
          (core_first R b E way is 0 (omega arith) ∙ is.start) in
          comes_back G E part b m J (multiple_of many.times way.displacement) c
          (island_within R G E part J c start.island in_J k) in_J (omega arith) many.within
          (λ x e. part_within R ((endless way).core m) (generation R E m) core x (ap (λ H. contains H x) again ∙ e))
          start.gone

      no_debris_part : (S : Generation) → IsPart R S G → contains S c ≡ true → FallsApart R b S → ⊥
      no_debris_part S part k falls =
          no_ash_part R (generation R G b) (generation R S b) (part_later R S G part b) b (b / 2) b falls.0 strays.last.set
          strays.common (late_multiple b) falls.1 strays.later.island strays.here
          (heirs_within R G S part J (island_within R G S part J c start.island in_J k) b strays.first.heirs start.heirs
          strays.common strays.heir)
          (gone_lacks R b (generation R G b) strays.last.set strays.later.gone)

      pub no_growth : (Es : List Generation) (S : Generation) → IsGrowth R b G Es S → ⊥
      no_growth Es S growth =
          let one = cell_of R b G Es S growth c (start.island.within c in_J) in
          let part = IsPart-growth R b G Es S growth one.0 one.1 in
          elim (head_or_later S one.0 Es one.1.0 one.1.1 one.1.2) [
            | inl same ↦ no_debris_part one.0 part one.2 (subst (FallsApart R b) same growth.settles)
            | inr later ↦ no_engine_part one.0 part one.2 (engine_of R b G Es S growth one.0 later)
          ]
