-- The periods and displacements of the parts of ash are ways that things may have.
use Rattle.std.proofs.Common.{◌≡◌, ℕ, suc, ℤ, pos, neg_ℤ, ◌≤ℤ◌, ◌<◌, ◌≤◌, true, inl, inr, sym, ap, subst, ◌∙◌, arith}
use Rattle.std.specs.List.{All, Contains}
use Rattle.std.proofs.lemmas.Int.{ints}
use Rattle.std.proofs.lemmas.List.Elements.{All-contains, All-contains_itself, All-weaker}
use Rattle.std.specs.Prelude.{List}
use Rattle.life_model.specs.Cell.{Cell}
use Rattle.life_model.specs.Generation.{Generation, contains}
use Rattle.life_model.specs.Evolution.{generation, next}
use Rattle.life_model.specs.Recurrence.{RecursBy}
use Rattle.life_model.specs.Symmetry.{translate_of}
use Rattle.life_objects.specs.Union.{IsSubsetOf}
use Rattle.life_things.specs.Ways.{IsFit}
use Rattle.life_model.specs.Rule.{Rule}
use Rattle.life_model.proofs.Moves.{nothing_or_some}
use Rattle.life_objects.specs.Ash.{IsAsh, IsObject}
use Rattle.life_objects.proofs.Ashes.{object_of}
use Rattle.life_objects.proofs.DecidedLemmas.Kept.{Contains-map}
use Rattle.life_orbit.specs.Course.{Course, IsCourse}
use Rattle.life_apart.specs.Sets.{IsCourseBy, sets_of}
use Rattle.life_things.specs.Lattice.Short.{IsWithin, way_limit}
use Rattle.life_growing.specs.Settled.Settling.{HasFitWay}
use Rattle.life_strays.proofs.Speeds.{across_height, along_height, back_height, no_lower, up_height}

within_way : (n : ℕ) (z : ℤ) → n ≤ way_limit → neg_ℤ (pos n) ≤ℤ z → neg_ℤ (pos n) ≤ℤ neg_ℤ z → IsWithin way_limit z
within_way n z le low high = record { low = omega (arith, ints); high = omega (arith, ints) }

-- where each set becomes the next one, and after few of them the first recurs, moved
pub fit_by_steps : (R : Rule) (sets : ℕ → Generation) (p : ℕ) (d : Cell) → 1 ≤ p → p ≤ way_limit →
    ((m : ℕ) → m < p → IsSubsetOf (sets (suc m)) (next R (sets m))) →
    IsSubsetOf (translate_of (sets 0) d) (sets p) → (c : Cell) → contains (sets 0) c ≡ true → IsFit (p, d)
fit_by_steps R sets p d some few step again c h = record {
  some = some;
  few = few;
  across = within_way p d.0 few (no_lower (λ x. x.0) across_height R sets p d c step again h)
      (no_lower (λ x. neg_ℤ x.0) back_height R sets p d c step again h);
  along = within_way p d.1 few (no_lower (λ x. x.1) along_height R sets p d c step again h)
      (no_lower (λ x. neg_ℤ x.1) up_height R sets p d c step again h);
}

module _ (R : Rule) (b : ℕ) (few : b ≤ way_limit) where
  module _ (o : Course) (rule : o.rule ≡ R) (course : IsCourse o) (object : IsObject R b o.set) where
    again : RecursBy R o.set o.period o.displacement
    again = subst (λ S. RecursBy S o.set o.period o.displacement) rule course.recurs

    short : o.period ≤ way_limit
    short =
        let r = object.recurs in
        let sooner : o.period ≤ r.steps =
        course.least r.steps r.by (subst (λ S. RecursBy S o.set r.steps r.by) (sym rule) r.recurs) in
        let within : r.steps ≤ b = r.within in
        omega arith

    fit_by_cell : (c : Cell) → contains o.set c ≡ true → HasFitWay o
    unfolding generation
    fit_by_cell c h =
        fit_by_steps R (generation R o.set) o.period o.displacement again.later short
        (λ m k d x. x)
        (λ d x. ap (λ H. contains H d) again.again ∙ x)
        c h

    fit_way : HasFitWay o
    fit_way =
        elim (nothing_or_some o.set) [
          | inl none ↦ absurd (object.nonempty none)
          | inr cell ↦ fit_by_cell cell.0 cell.1
        ]

  pub fit_ways : (G : Generation) (parts : List Course) → IsAsh R b G (sets_of parts) → All (IsCourseBy R) parts →
      All IsCourse parts → All HasFitWay parts
  fit_ways G parts ash rule courses =
      All-weaker (Contains parts) HasFitWay (λ o one.
      fit_way o (All-contains (IsCourseBy R) parts o rule one) (All-contains IsCourse parts o courses one)
      (object_of R b G (sets_of parts) ash o.set (Contains-map (λ (x : Course). x.set) parts o one)))
      parts (All-contains_itself parts)
