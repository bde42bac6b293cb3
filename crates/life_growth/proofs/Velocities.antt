-- No object that an engine emits moves as the engine does.
use Rattle.std.proofs.Common.{◌≡◌, ◌≢◌, ℕ, zero, suc, ◌+◌, ◌-◌, ◌*◌, ◌<◌, ◌≤◌, true, List, inl, inr, sym, refl, ap, subst, ◌∙◌, arith}
use Rattle.std.proofs.lemmas.Int.{ints}
use Rattle.life_model.proofs.Cells.{pair}
use Rattle.life_model.proofs.Orbits.{far_enough}
use Rattle.std.specs.List.{Contains}
use Rattle.life_model.specs.Cell.{Cell, origin, plus}
use Rattle.life_model.specs.Rule.{Rule}
use Rattle.life_model.specs.Generation.{Generation, contains}
use Rattle.life_model.specs.Evolution.{generation, next}
use Rattle.life_model.specs.Recurrence.{RecursBy}
use Rattle.life_model.specs.Symmetry.{translate_of}
use Rattle.life_model.proofs.Moves.{nothing_or_some}
use Rattle.life_model.proofs.Recurrences.{generation-add, generation-next}
use Rattle.life_model.proofs.Symmetries.{contains-moved, generation-moved}
use Rattle.life_objects.specs.Apart.{AreApartForEver}
use Rattle.life_objects.specs.Ash.{HasFallenApart}
use Rattle.life_objects.specs.Drift.{multiple_of}
use Rattle.life_objects.proofs.Ashes.{AreApartForEver-later, object_of}
use Rattle.life_objects.proofs.Moving.{generation-times}
use Rattle.life_objects.proofs.Times.{disjoint_ever}
use Rattle.life_growth.specs.Engine.{IsEngine, Way}
use Rattle.life_growth.specs.Onward.{endless, accumulated}
use Rattle.life_growth.proofs.Endless.{GoesOn, GoesOn-from, from_step, goes_on, left_first, left_times}
use Rattle.life_growth.proofs.Growing.{becomes, core_apart, left_part, next_apart}
use Rattle.life_growth.proofs.Parts.{IsPart, part_apart, part_within, part_within_later}
use Rattle.life_growth.proofs.Settling.{IsPart-ash, nonempty_moved}

module _ (R : Rule) where
  -- ---- what leaves later is apart from what has left

  module _ (b : ℕ) (way : Way) (on : GoesOn R b way) (n : ℕ) where
    abbrev from : Way
    from = from_step R b way on (suc n)

    abbrev too : GoesOn R b from
    too = GoesOn-from R b way on (suc n)

    pub core_then : (m : ℕ) → IsPart R (from.core m) (generation R (from.core 0) m)
    core_then m = record {
      rest = accumulated R from.left m;
      together = sym (becomes R b from too m);
      apart = core_apart R b from too m;
    }

    pub left_then : (m : ℕ) → AreApartForEver R (from.left m) (generation R (way.left n) (m + 1))
    left_then m =
        let first : AreApartForEver R (from.core 0) (way.left n) =
        subst (λ k. AreApartForEver R (way.core k) (way.left n)) (let e : suc n ≡ suc n + 0 = omega arith in e)
        (on.leaves n).apart in
        let now : AreApartForEver R (generation R (from.core 0) m) (generation R (way.left n) m) =
        AreApartForEver-later R m (from.core 0) (way.left n) first in
        let core : AreApartForEver R (from.core m) (generation R (way.left n) m) =
        part_apart R (from.core m) (generation R (from.core 0) m) (generation R (way.left n) m) (core_then m) now in
        let after : AreApartForEver R (next R (from.core m)) (next R (generation R (way.left n) m)) =
        next_apart R (from.core m) (generation R (way.left n) m) core in
        subst (AreApartForEver R (from.left m)) (sym (generation-next R (way.left n) m))
        (part_apart R (from.left m) (next R (from.core m)) (next R (generation R (way.left n) m))
        (left_part R (from.core m) (from.core (suc m)) (from.left m) (too.leaves m)) after)

    -- k periods later the same leaves again, moved
    pub left_again_apart : (k : ℕ) → 1 ≤ k →
        AreApartForEver R (translate_of (way.left n) (multiple_of k way.displacement))
        (generation R (way.left n) (k * way.period))
    left_again_apart k h =
        let far : k ≤ 0 + k * way.period = far_enough 0 k way.period on.later in
        let one : 1 ≤ k * way.period = omega arith in
        let m : ℕ = k * way.period - 1 in
        subst (λ H. AreApartForEver R H (generation R (way.left n) (k * way.period)))
        (ap way.left (let e : suc n + m ≡ n + k * way.period = omega arith in e) ∙ left_times R b way on n k)
        (subst (λ j. AreApartForEver R (from.left m) (generation R (way.left n) j))
        (let e : m + 1 ≡ k * way.period = omega arith in e) (left_then m))

  module _ (b c : ℕ) (way : Way) (on : GoesOn R b way) (n : ℕ) (ashes : List Generation)
      (fallen : HasFallenApart R c (way.left n) ashes) (P : Generation) (one : Contains ashes P) (q : ℕ) (e : Cell)
      (again : RecursBy R P q e) (same : multiple_of q way.displacement ≡ multiple_of way.period e) where
    abbrev L : Generation
    L = way.left n

    abbrev by : Cell
    by = multiple_of q way.displacement

    abbrev far : AreApartForEver R (translate_of L by) (generation R L (q * way.period))
    far = left_again_apart b way on n q again.later

    part : IsPart R P (generation R L c)
    part = IsPart-ash R c (generation R L c) ashes fallen P one

    in_copy : (x : Cell) → contains (translate_of P by) x ≡ true → contains (generation R (translate_of L by) c) x ≡ true
    in_copy x h =
        ap (λ H. contains H x) (generation-moved R L by c) ∙ contains-moved (generation R L c) by x
        ∙ part_within R P (generation R L c) part _ (sym (contains-moved P by x) ∙ h)

    in_later : (x : Cell) → contains (translate_of P by) x ≡ true →
        contains (generation R (generation R L (q * way.period)) c) x ≡ true
    in_later x h =
        let time : ℕ = q * way.period in
        ap (λ H. contains H x) (generation-add R L time c
        ∙ ap (generation R L) (let z : time + c ≡ c + way.period * q = omega arith in z)
        ∙ sym (generation-add R L c (way.period * q)))
        ∙ part_within_later R P (generation R L c) part (way.period * q) x
        (ap (λ H. contains H x) (generation-times R P q e again way.period ∙ ap (translate_of P) (sym same)) ∙ h)

    pub not_with_it : ⊥
    not_with_it =
        elim (nothing_or_some (translate_of P by)) [
          | inl none ↦ nonempty_moved R P by (object_of R c (generation R L c) ashes fallen P one).nonempty none
          | inr some ↦
              disjoint_ever R c (translate_of L by) (generation R L (q * way.period)) far some.0
              (in_copy some.0 some.1) (in_later some.0 some.1)
        ]

  pub emitted_moves_otherwise : (b c n : ℕ) (E : Generation) (way : Way) → IsEngine R b E way → n < way.period →
      (ashes : List Generation) → HasFallenApart R c (way.left n) ashes → (P : Generation) → Contains ashes P →
      (q : ℕ) (e : Cell) → RecursBy R P q e → multiple_of q way.displacement ≡ multiple_of way.period e → ⊥
  emitted_moves_otherwise b c n E way engine h ashes fallen P one q e again same =
      not_with_it b c (endless way) (goes_on R b E way engine) n ashes
      (subst (λ H. HasFallenApart R c H ashes) (sym (left_first R b E way engine n h)) fallen) P one q e again same

  multiple-origin : (n : ℕ) → multiple_of n origin ≡ origin
  multiple-origin zero = refl
  multiple-origin (suc n) =
      ap (λ d. plus d origin) (multiple-origin n)
      ∙ (let z : plus origin origin ≡ origin = pair (omega (arith, ints)) (omega (arith, ints)) in z)

  pub guns_emit_spaceships : (b c n : ℕ) (E : Generation) (way : Way) → IsEngine R b E way → n < way.period →
      (ashes : List Generation) → HasFallenApart R c (way.left n) ashes → (P : Generation) → Contains ashes P →
      (q : ℕ) (e : Cell) → RecursBy R P q e → way.displacement ≡ origin → e ≢ origin
  guns_emit_spaceships b c n E way engine h ashes fallen P one q e again still too =
      emitted_moves_otherwise b c n E way engine h ashes fallen P one q e again
      (ap (multiple_of q) still ∙ multiple-origin q ∙ sym (multiple-origin way.period) ∙ ap (multiple_of way.period) (sym too))
