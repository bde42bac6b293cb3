-- What a set that recurs was before.
use Rattle.std.proofs.Common.{◌≡◌, ℕ, sym, ap, subst, ◌∙◌}
use Rattle.life_model.specs.Cell.{Cell}
use Rattle.life_model.specs.Rule.{Rule}
use Rattle.life_model.specs.Generation.{Generation}
use Rattle.life_model.specs.Evolution.{generation}
use Rattle.life_model.specs.Recurrence.{RecursBy}
use Rattle.life_objects.proofs.Recurring.{RecursBy-later, RecursBy-sooner}
use Rattle.life_objects.specs.Ash.{RecursWithin}
use Rattle.life_orbit.specs.Course.{Course, IsCourse}
use Rattle.life_ash.specs.Parts.{IsEnd}

module _ (R : Rule) (b ago : ℕ) (last P : Generation) (is_end : IsEnd R b ago last P) where
  pub end_recurs : RecursWithin R b last
  end_recurs = record {
    steps = is_end.recurs.steps;
    by = is_end.recurs.by;
    within = is_end.recurs.within;
    recurs = subst (λ H. RecursBy R H is_end.recurs.steps is_end.recurs.by) is_end.end
        (RecursBy-later R P is_end.recurs.steps is_end.recurs.by is_end.recurs.recurs ago);
  }

  -- P recurs as what it becomes does
  pub end_tells : (n : ℕ) (d : Cell) → RecursBy R last n d → RecursBy R P n d
  end_tells n d r =
      RecursBy-sooner R P is_end.recurs.steps is_end.recurs.by is_end.recurs.recurs ago n d
      (subst (λ H. RecursBy R H n d) (sym is_end.end) r)

  -- P goes round as the orbit of what it becomes
  module _ (o : Course) (rule : o.rule ≡ R) (set : o.set ≡ last) (course : IsCourse o) where
    pub end_goes_round : RecursBy o.rule P o.period o.displacement
    end_goes_round =
        subst (λ S. RecursBy S P o.period o.displacement) (sym rule)
        (end_tells o.period o.displacement (subst (λ H. RecursBy R H o.period o.displacement) set
        (subst (λ S. RecursBy S o.set o.period o.displacement) rule course.recurs)))

    pub end_reached : generation o.rule P ago ≡ o.set
    end_reached = ap (λ S. generation S P ago) rule ∙ is_end.end ∙ sym set
