-- When a set that recurs is an object.
use Rattle.std.proofs.Common.{◌≡◌, ◌≢◌, ℕ, ◌+◌, ◌-◌, ◌<◌, ◌≤◌, inl, inr, sym, ap, subst, ◌∙◌, arith}
use Rattle.std.specs.List.{All}
use Rattle.std.proofs.lemmas.Bool.{cases_lt}
use Rattle.life_model.specs.Rule.{Rule}
use Rattle.life_model.specs.Generation.{Generation, cells, empty}
use Rattle.life_model.specs.Evolution.{generation}
use Rattle.life_model.specs.Recurrence.{RecursBy}
use Rattle.life_model.proofs.Recurrences.{generation-add}
use Rattle.life_cells.specs.Limits.{IsWithin}
use Rattle.life_objects.specs.Apart.{AreApart}
use Rattle.life_objects.specs.Ash.{IsObject}
use Rattle.life_objects.specs.Piece.{IsOnePiece, IsUndivided}
use Rattle.life_objects.proofs.Moving.{one_piece_by_period}
use Rattle.life_objects.proofs.Recurring.{gone_stays}
use Rattle.life_objects.proofs.Times.{generation-union}
use Rattle.life_objects.specs.Limits.{objects_bound_limit}
use Rattle.life_orbit.specs.Course.{Course}
use Rattle.life_ash.specs.Parts.{IsFit, ash_age_limit}
use Rattle.life_cells.proofs.Places.{generation_within, itself_within}

module _ (R : Rule) where
  -- what becomes undivided after k generations is undivided within k more
  undivided_sooner : (a k b : ℕ) (Q : Generation) → k + a ≤ b → IsUndivided R a (generation R Q k) → IsUndivided R b Q
  undivided_sooner a k b Q le whole A B split h l =
      whole (generation R A k) (generation R B k)
      (record {
        together = sym (generation-union R k A B (λ m j. split.apart m (omega arith)))
            ∙ ap (λ S. generation R S k) split.together;
        apart = λ n j.
            subst (λ S. AreApart S (generation R (generation R B k) n)) (sym (generation-add R A k n))
            (subst (AreApart (generation R A (k + n))) (sym (generation-add R B k n)) (split.apart (k + n) (omega arith)));
      })
      (λ gone. h (gone_stays R A (k + a) b (sym (generation-add R A k a) ∙ gone) le))
      (λ gone. l (gone_stays R B (k + a) b (sym (generation-add R B k a) ∙ gone) le))

module _ (R : Rule) (b : ℕ) (o : Course) (fit : IsFit R b o) where
  recurs : RecursBy R o.set o.period o.displacement
  recurs = subst (λ S. RecursBy S o.set o.period o.displacement) fit.rule fit.recurs.recurs

  pub one_piece_by_phases : ((m : ℕ) → m < o.period → IsUndivided R b (generation R o.set m)) → IsOnePiece R b o.set
  one_piece_by_phases each = one_piece_by_period R o.set o.period o.displacement recurs b each

  pub object_by_test : o.set ≢ empty → IsOnePiece R b o.set → IsObject R b o.set
  object_by_test some whole = record {
    nonempty = some;
    recurs = record { steps = o.period; by = o.displacement; within = fit.period; recurs = recurs };
    whole = whole;
  }

  pub phase_within : b ≤ objects_bound_limit → (n : ℕ) → n < o.period →
      All (IsWithin 500000) (cells (generation o.rule o.set n))
  phase_within le n h =
      let period : o.period ≤ b = fit.period in
      itself_within (ash_age_limit + n) 500000 (omega arith) (generation o.rule o.set n)
      (generation_within o.rule ash_age_limit o.set fit.within n)

  -- each phase from this one on is undivided within b
  abbrev pub AreWholeFrom : ℕ → Type 0
  AreWholeFrom n = (m : ℕ) → n ≤ m → m < o.period → IsUndivided R b (generation R o.set m)

  -- A phase that is undivided within `step - 1` generations fewer shows the same of that many phases before it, within b.
  pub more_phases : (step end : ℕ) (phase : Generation) → 1 ≤ step → step ≤ end → step ≤ b →
      phase ≡ generation o.rule o.set (end - 1) → IsUndivided R (b - (step - 1)) phase → AreWholeFrom end →
      AreWholeFrom (end - step)
  more_phases step end phase some fits short is here so_far m h l =
      elim (cases_lt m end) [
        | inl early ↦
            let k : ℕ = end - 1 - m in
            let there : generation R o.set (end - 1) ≡ generation R (generation R o.set m) k =
            ap (generation R o.set) (let e : end - 1 ≡ m + k = omega arith in e) ∙ sym (generation-add R o.set m k) in
            undivided_sooner R (b - (step - 1)) k b (generation R o.set m) (omega arith)
            (subst (IsUndivided R (b - (step - 1)))
            (is ∙ ap (λ S. generation S o.set (end - 1)) fit.rule ∙ there) here)
        | inr late ↦ so_far m late l
      ]
