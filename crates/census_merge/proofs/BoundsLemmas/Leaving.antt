-- What an engine that doesn't move emits moves.
use Rattle.std.proofs.Common.{◌≡◌, ◌≢◌, ℕ, zero, suc, ◌*◌, ◌<◌, ◌≤◌, Bool, true, false, not, ◌||◌, cond, inl, inr, List, [], ◌∷◌, refl, sym, ap, subst, ◌∙◌, arith}
use Rattle.std.specs.List.{All, AllByRecursion as Each, Contains}
use Rattle.std.proofs.lemmas.Bool.{false_from_ne_true}
use Rattle.std.proofs.lemmas.Int.{ints}
use Rattle.std.proofs.lemmas.List.Elements.{All-append, All-contains, All-contains_itself, All-nil, All-weaker}
use Rattle.census_readback.specs.Codes.{is_moving}
use Rattle.life_answer.specs.Census.{counted_parts, part_code}
use Rattle.life_answer.specs.Counted.{all_come_again, code_bound, counted_as, counted_of}
use Rattle.life_answer.specs.Tales.{tale_by}
use Rattle.life_answer.proofs.Tales.{emits_objects}
use Rattle.life_growth.specs.Engine.{Emits, IsEngine, Way, joined}
use Rattle.life_growth.proofs.Velocities.{guns_emit_spaceships}
use Rattle.life_model.specs.Cell.{Cell, origin, plus, same_cell}
use Rattle.life_model.specs.Evolution.{generation}
use Rattle.life_model.specs.Generation.{Generation, empty}
use Rattle.life_model.specs.Recurrence.{RecursBy}
use Rattle.life_model.specs.Rule.{Rule}
use Rattle.life_model.specs.Symmetry.{translate_of}
use Rattle.life_model.proofs.Cells.{pair, same_cell-is}
use Rattle.life_model.proofs.Moves.{move_one, nothing_or_some}
use Rattle.life_model.proofs.Recurrences.{generation-zero}
use Rattle.life_objects.specs.Ash.{IsObject, RecursWithin}
use Rattle.life_objects.specs.Drift.{multiple_of}
use Rattle.life_objects.specs.Limits.{objects_bound_limit}
use Rattle.life_objects.proofs.Found.{of_flat_map}
use Rattle.life_objects.proofs.Moving.{RecursBy-times, generation-times}
use Rattle.life_parts.specs.Independent.Independent.{independent_parts_of}
use Rattle.life_parts.specs.Parts.Parts.{AreIndependentParts, IsIndependentPart}
use Rattle.life_parts.proofs.IndependentLemmas.Finest.{are_the_parts}
use Rattle.life_parts.proofs.PartsLemmas.Lists.{part_recurs}
use Rattle.census_merge.proofs.BoundsLemmas.Codes.{counted-hold}
use Rattle.census_merge.proofs.CodeTexts.{code-moving}
use Rattle.census_merge.proofs.RunsLemmas.CountedSets.{counted_recurs, counted_told, only_one}
use Rattle.census_merge.proofs.RunsLemmas.PartCodes.{at_once, part_code-is}
use Rattle.census_merge.specs.Ranges.{GetsAway}

swapped : (m n : ℕ) → m * n ≡ n * m
swapped m n = omega arith

nowhere : (n : ℕ) → multiple_of n origin ≡ origin
nowhere zero = refl
nowhere (suc n) = ap (λ d. plus d origin) (nowhere n) ∙ (let z : plus origin origin ≡ origin = pair (omega (arith, ints)) (omega (arith, ints)) in z)

module _ (R : Rule) where
  -- whenever it recurs it has moved
  abbrev Moves : Generation → Type 0
  Moves P = (q : ℕ) (e : Cell) → RecursBy R P q e → e ≢ origin

  -- an independent part of what moves moves
  part-moves : (P : Generation) → Moves P → (n : ℕ) (d : Cell) → RecursBy R P n d → (Qs : List Generation) → AreIndependentParts R P Qs
      → (Q : Generation) → Contains Qs Q → Moves Q
  part-moves P moves n d again Qs are Q one m f recurs still =
      let k = part_recurs R P Qs are n d again Q one in
      let N : ℕ = k.0 * n in
      let by : Cell = multiple_of k.0 d in
      let whole = RecursBy-times R P N by (RecursBy-times R P n d again k.0 k.1) m recurs.later in
      let part = RecursBy-times R Q N by k.3 m recurs.later in
      let time : m * N ≡ N * m = swapped m N in
      let same : translate_of Q (multiple_of m by) ≡ translate_of Q (multiple_of N f) =
      sym part.again ∙ ap (generation R Q) time ∙ generation-times R Q m f recurs N in
      elim (nothing_or_some Q) [
        | inl none ↦ (All-contains (IsIndependentPart R P) Qs Q are.parts one).nonempty none
        | inr cell ↦
            moves (m * N) (multiple_of m by) whole
            (move_one Q cell.0 (multiple_of m by) (multiple_of N f) cell.1 same ∙ ap (multiple_of N) still ∙ nowhere N)
      ]

  module _ (b : ℕ) (P : Generation) (object : IsObject R b P) (moves : Moves P) (Q : Generation) where
    by_answer : (t : Bool) → Contains (cond t (independent_parts_of R b P) (P ∷ [])) Q → Moves Q
    by_answer true one =
        let again = object.recurs in
        part-moves P moves again.steps again.by again.recurs (independent_parts_of R b P) (are_the_parts R b P again) Q one
    by_answer false one = subst Moves (only_one P Q one) moves

    counted-moves : (near : Bool) → Contains (counted_as near R b P) Q → Moves Q
    counted-moves true one = subst Moves (only_one P Q one) moves
    counted-moves false one = by_answer (all_come_again R objects_bound_limit (independent_parts_of R b P)) one

  joined-move : (lists : ℕ → List Generation) (k : ℕ) → ((n : ℕ) → n < k → All Moves (lists n)) → All Moves (joined lists k)
  joined-move lists zero each = All-nil Moves
  joined-move lists (suc k) each = All-append Moves (joined lists k) (lists k) (joined-move lists k (λ n h. each n (omega arith))) (each k (omega arith))

  module _ (near : Bool) (b : ℕ) (E : Generation) (way : Way) (engine : IsEngine R b E way) (objects : List Generation) (emits : Emits R b way objects) where
    emitted-move : way.displacement ≡ origin → All Moves objects
    emitted-move still =
        subst (All Moves) (sym emits.together)
        (joined-move emits.ashes way.period (λ n h.
        All-weaker (Contains (emits.ashes n)) Moves (λ P one q e again.
        guns_emit_spaceships R b b n E way engine h (emits.ashes n) (emits.each n h) P one q e again still)
        (emits.ashes n) (All-contains_itself (emits.ashes n))))

    code-moves : way.displacement ≡ origin → (Q : Generation) → Contains (counted_of near R b objects) Q → is_moving (part_code R (code_bound b) Q) ≡ true
    code-moves still Q one =
        let all = emits_objects R b way objects emits in
        let from = of_flat_map (counted_as near R b) objects Q one in
        let moves = counted-moves b from.0 (All-contains (IsObject R b) objects from.0 all from.1)
        (All-contains Moves objects from.0 (emitted-move still) from.1) Q near from.2 in
        let s = at_once R (code_bound b) Q (counted_told R b near Q (counted_recurs R b near objects all Q one)) in
        let recurs : RecursBy R Q s.period s.displacement = subst (λ H. RecursBy R H s.period s.displacement) (generation-zero R Q) s.settles.recurs in
        let moved : same_cell s.displacement origin ≡ false =
        false_from_ne_true (same_cell s.displacement origin) (λ e. moves s.period s.displacement recurs ((same_cell-is s.displacement origin).0 e)) in
        ap is_moving (part_code-is R (code_bound b) Q s) ∙ code-moving R Q s.period s.displacement moved

    -- what it emits gets away from it
    pub emitted-away : Each (GetsAway (tale_by near R b way objects)) (counted_parts near R b objects)
    emitted-away =
        counted-hold (λ code. (not (same_cell way.displacement origin) || is_moving code) ≡ true) R b near objects (λ Q one.
        (elim (same_cell way.displacement origin) as (λ v. same_cell way.displacement origin ≡ v → (not v || is_moving (part_code R (code_bound b) Q)) ≡ true) [
          | true ↦ λ e. code-moves ((same_cell-is way.displacement origin).0 e) Q one
          | false ↦ λ e. refl
        ]) refl)
